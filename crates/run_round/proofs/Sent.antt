-- What may go to another thread: the roles, with all that they hold; and what they share. Each type by its fields, from the nodes of segments up:
-- chains, streams, objects, flows, buckets and the pools; then the passes and locks over these machines, then the roles, and what they share.
use denote.Param.Send.{IsSend, IsSync, sendable, view_send, recorded_send, struct_send, recorded_sync, struct_sync, view_sync}
use denote.Param.SendFields.{as_row_send}
use denote.Struct.Declared.{shape}
use denote.Builtin.{u32}
use Rattle.std.proofs.Crossing.{crosses, Box-send, Vec-send, Vec-sync, Deque-send}
use Rattle.std.proofs.option.Option.TheSendSync as option
use Rattle.suri_base.specs.contracts.segments.Segments.TheInside as chain_inside
use Rattle.suri_base.specs.contracts.segments.Segments.{the_row as chain_row}
use Rattle.suri_base.specs.contracts.segment.Segment.{the_row as link_row, the_field as link_field}
use Rattle.suri_base.proofs.segment.Segment.TheLaws.TheKnot.{send-Segment}
use Rattle.suri_base.specs.contracts.capture.Capture.{the_row as capture_row}
use Rattle.suri_base.specs.contracts.entry.SegNote.{the_row as seg_note}
use Rattle.suri_base.specs.contracts.entry.PoolNote.{the_row as pool_note}
use Rattle.suri_base.specs.contracts.entry.BucketNote.{the_row as bucket_note}
use Rattle.suri_base.specs.contracts.capture.Capture.TheInside as capture_inside
use Rattle.suri_base.specs.contracts.slots.Slots.TheInside as slots_inside
use Rattle.suri_base.specs.contracts.slots.Slots.{the_row as slots_row}
use Rattle.suri_base.specs.contracts.slot.Slot.{the_row as slot_row, the_field as slot_field, the_type as slot_type}
use Rattle.suri_base.specs.contracts.frame.Frame.{the_row as frame_row}
use Rattle.suri_base.specs.contracts.layout.Layout.{the_field as layout_field}
use Rattle.suri_base.specs.contracts.address.Address.{the_field as address_field}
use Rattle.suri_base.specs.contracts.counter.Counter.{the_row as counter_row}
use Rattle.suri_base.specs.contracts.facts.TcpFacts.{the_field as tcp_field}
use Rattle.suri_base.specs.contracts.facts.IcmpFacts.{the_row as icmp_row, the_field as icmp_field}
use Rattle.suri_base.specs.contracts.key.Key.{the_field as key_field, the_type as key_type}
use Rattle.suri_base.specs.contracts.key.End.{the_field as end_field}
use Rattle.suri_base.specs.contracts.key.Vlans.{the_field as vlans_field}
use Rattle.suri_base.specs.contracts.key.Side.{the_field as side_field}
use Rattle.suri_base.specs.contracts.app.App.{the_field as app_field}
use Rattle.suri_base.specs.contracts.reason.Reason.{the_field as reason_field}
use Rattle.suri_base.specs.contracts.stream.StreamLine.{the_field as told_field}
use Rattle.tcp_session.specs.contracts.session.Session.{the_row as session_row}
use Rattle.tcp_session.specs.contracts.classes.Class.{the_field as class_field}
use Rattle.tcp_session.specs.contracts.state.State.{the_field as state_field}
use Rattle.flow_sum.specs.contracts.sums.Sums.{the_field as sums_field, the_type as sums_type}
use Rattle.flow_sum.specs.contracts.dir.Dir.{the_field as dir_field}
use Rattle.segment_tree.specs.contracts.spot.Spot.{the_row as spot_row}
use Rattle.segment_tree.specs.contracts.tree.SegmentTree.TheInside as tree_inside
use Rattle.segment_tree.specs.contracts.tree.SegmentTree.{the_row as tree_row}
use Rattle.sha1.specs.contracts.Sha1.{the_field as digest_field}
use Rattle.reassembly.specs.contracts.stream.Stream.TheInside as stream_inside
use Rattle.reassembly.specs.contracts.stream.Stream.{the_row as stream_row}
use Rattle.flow_object.specs.contracts.object.FlowObj.TheInside as object_inside
use Rattle.flow_object.specs.contracts.object.FlowObj.{the_row as object_row}
use Rattle.flow_object.specs.contracts.outcome.Ended.{the_row as ended_row}
use Rattle.flow_object.specs.contracts.outcome.FlowLine.{the_row as line_row, the_field as line_field, the_type as line_type}
use Rattle.flow_uses.specs.contracts.uses.Uses.{the_row as uses_row}
use Rattle.segment_pool.specs.contracts.pool.SegmentPool.{the_row as seg_row}
use Rattle.segment_pool.specs.contracts.calls.SegCall.{the_row as seg_call}
use Rattle.segment_pool.specs.contracts.calls.SegReply.{the_row as seg_reply}
use Rattle.segment_pool.specs.contracts.pool.SegmentPoolMachine.TheImpl.{ghosts as seg_ghosts}
use Rattle.flow_pool.specs.contracts.pool.FlowPool.{the_row as pool_row}
use Rattle.flow_pool.specs.contracts.calls.PoolCall.{the_row as pool_call}
use Rattle.flow_pool.specs.contracts.calls.PoolReply.{the_row as pool_reply}
use Rattle.flow_pool.specs.contracts.calls.PoolSetting.{the_row as pool_setting}
use Rattle.flow_pool.specs.contracts.pool.FlowPoolMachine.TheImpl.{ghosts as pool_ghosts}
use Rattle.bucket_flow.specs.contracts.flow.Flow.{the_row as flow_row}
use Rattle.key_order.specs.contracts.ages.Age.{the_row as age_row}
use Rattle.key_order.specs.contracts.places.KeyPlace.{the_row as place_row}
use Rattle.slot_order.proofs.order.Order.TheSendSync as order
use Rattle.flow_orders.specs.contracts.orders.Orders.{the_row as orders_row}
use Rattle.flow_table.specs.contracts.table.FlowTable.{the_row as table_row}
use Rattle.flow_bucket.specs.contracts.bucket.FlowBucket.{the_row as bucket_row}
use Rattle.flow_bucket.specs.contracts.calls.BucketCall.{the_row as bucket_call}
use Rattle.flow_bucket.specs.contracts.calls.BucketReply.{the_row as bucket_reply}
use Rattle.bucket_rules.specs.contracts.fixed.Fixed.{the_row as fixed_row}
use Rattle.flow_bucket.specs.contracts.bucket.FlowBucketMachine.TheImpl.{ghosts as bucket_ghosts}
use Rattle.hist_lock.proofs.pass.Pass.TheSendSync as pass_sent
use Rattle.hist_lock.specs.contracts.pass.Pass.{the_row as pass_row}
use Rattle.hist_lock.proofs.table.HistLock.TheSendSync as lock_sent
use Rattle.hist_lock.specs.contracts.table.HistLock.{the_row as lock_row, the_field as lock_field}
use Rattle.role_steps.specs.contracts.roles.Shared.{the_row as shared_row, the_field as shared_field, the_type as shared_type}
use Rattle.role_steps.specs.contracts.roles.Passes.{the_field as passes_field, the_type as passes_type}
use Rattle.role_steps.specs.contracts.roles.Worker.{the_field as worker_field, the_type as worker_type}
use Rattle.role_steps.specs.contracts.roles.Manager.{the_field as manager_field, the_type as manager_type}
use Rattle.role_steps.specs.contracts.roles.Recycler.{the_field as recycler_field, the_type as recycler_type}
use Rattle.role_meets.specs.contracts.roles.Part.{the_field as part_field}
use Rattle.role_meets.specs.contracts.roles.Role.{the_row as role_row, the_field as role_field, the_type as role_type}
use Rattle.std.specs.contracts.alloc.Global.{the_field as heap_field}
use Rattle.run_round.specs.contracts.play.Round.{the_row as round_row, the_field as round_field, the_type as round_type}

-- nodes, and what ends with them: streams, objects, flows that ended
node_send : IsSend link_field.row
node_send = send-Segment (search sendable) (search sendable) (λ h s. option.the_send _ (Box-send h s))

segment_send : IsSend link_row
segment_send = as_row_send link_field node_send

chain_send : IsSend chain_row
chain_send = view_send chain_inside.the_row _ _ _ _ (recorded_send (chain_inside.the_field).row _ _ (chain_inside.the_type).to_one (struct_send (shape chain_inside.the_type) (option.the_field_send _ (Box-send _ segment_send), tt)))

tree_send : IsSend tree_row
tree_send = view_send tree_inside.the_row _ _ _ _ (recorded_send (tree_inside.the_field).row _ _ (tree_inside.the_type).to_one (struct_send (shape tree_inside.the_type) (option.the_field_send _ (Box-send _ segment_send), tt)))

number_send : IsSend u32
number_send = search sendable

digest_send : IsSend digest_field.row
digest_send = search (sendable, crosses) depth 20

spot_send : IsSend spot_row
spot_send = search sendable depth 20

stream_send : IsSend stream_row
stream_send = view_send stream_inside.the_row _ _ _ _ (recorded_send (stream_inside.the_field).row _ _ (stream_inside.the_type).to_one (struct_send (shape stream_inside.the_type)
    (search sendable, (option.the_field_send u32 number_send, (search sendable, (digest_send, (tree_send, (chain_send, (search sendable, (option.the_field_send _ spot_send, tt))))))))))

vlans_send : IsSend vlans_field.row
vlans_send = search sendable depth 20

end_send : IsSend end_field.row
end_send = search sendable depth 20

key_send : IsSend key_field.row
key_send = struct_send (shape key_type) (vlans_send, (search sendable, (search sendable, (search sendable, (end_send, (end_send, tt))))))

side_send : IsSend side_field.row
side_send = search sendable depth 20

icmp_send : IsSend icmp_row
icmp_send = search sendable depth 20

dir_send : IsSend dir_field.row
dir_send = search sendable depth 30

sums_send : IsSend sums_field.row
sums_send = struct_send (shape sums_type) (search sendable, (search sendable, (search sendable, (key_send, (side_send, (option.the_field_send _ icmp_send, (dir_send, (dir_send, tt))))))))

session_send : IsSend session_row
session_send = search sendable depth 30

app_send : IsSend app_field.row
app_send = search sendable depth 20

object_send : IsSend object_row
object_send = view_send object_inside.the_row _ _ _ _ (recorded_send (object_inside.the_field).row _ _ (object_inside.the_type).to_one (struct_send (shape object_inside.the_type)
    (search sendable, (sums_send, (session_send, (app_send, (stream_send, (stream_send, tt))))))))

ended_send : IsSend ended_row
ended_send = search (sendable, crosses, object_send) depth 20

class_send : IsSend class_field.row
class_send = search sendable depth 20

state_send : IsSend state_field.row
state_send = search sendable depth 30

reason_send : IsSend reason_field.row
reason_send = search sendable depth 20

told_send : IsSend told_field.row
told_send = search sendable depth 20

line_send : IsSend line_row
line_send = recorded_send line_field.row _ _ line_type.to_one (struct_send (shape line_type) (sums_send, (class_send, (state_send, (app_send, (told_send, (told_send, (reason_send, (search sendable, tt)))))))))

-- the capture, which is shared
frame_sync : IsSync frame_row
frame_sync = search sendable depth 20

address_sync : IsSync address_field.row
address_sync = search sendable depth 20

tcp_sync : IsSync tcp_field.row
tcp_sync = search sendable depth 20

icmp_sync : IsSync icmp_field.row
icmp_sync = search sendable depth 20

vlans_sync : IsSync vlans_field.row
vlans_sync = search sendable depth 20

side_sync : IsSync side_field.row
side_sync = search sendable depth 20

counter_sync : IsSync counter_row
counter_sync = search sendable depth 30

slot_sync : IsSync slot_row
slot_sync = recorded_sync slot_field.row _ _ slot_type.to_one (struct_sync (shape slot_type) (
  address_sync,
  (
    address_sync,
    (
      tcp_sync,
      (
        search sendable,
        (
          search sendable,
          (
            search sendable,
            (
              search sendable,
              (
                search sendable,
                (
                  vlans_sync,
                  (
                    search sendable,
                    (
                      search sendable,
                      (icmp_sync, (search sendable, (search sendable, (search sendable, (side_sync, (search sendable, (option.the_field_sync _ counter_sync, tt))))))),
                    ),
                  ),
                ),
              ),
            ),
          ),
        ),
      ),
    ),
  ),
))

slots_sync : IsSync slots_row
slots_sync = view_sync slots_inside.the_row _ _ _ _ (recorded_sync (slots_inside.the_field).row _ _ (slots_inside.the_type).to_one (struct_sync (shape slots_inside.the_type)
    (Vec-sync _ (Vec-sync _ slot_sync), (search sendable, tt))))

capture_sync : IsSync capture_row
capture_sync = view_sync capture_inside.the_row _ _ _ _ (recorded_sync (capture_inside.the_field).row _ _ (capture_inside.the_type).to_one (struct_sync (shape capture_inside.the_type)
    (Vec-sync _ (search sendable), (Vec-sync _ frame_sync, (Vec-sync _ (search sendable), (slots_sync, (search sendable, tt)))))))

-- the machines, and what they note
segments_send : IsSend seg_row
segments_send = search (sendable, crosses, chain_send) depth 12

pool_send : IsSend pool_row
pool_send = search (sendable, crosses, object_send) depth 20

uses_send : IsSend uses_row
uses_send = search (sendable, crosses) depth 20

flow_send : IsSend flow_row
flow_send = search (sendable, crosses, object_send, uses_send) depth 20

age_send : IsSend age_row
age_send = search (sendable, crosses) depth 20

place_send : IsSend place_row
place_send = search (sendable, crosses) depth 20

orders_send : IsSend orders_row
orders_send = search (sendable, crosses, age_send, place_send, order.the_send) depth 20

table_send : IsSend table_row
table_send = search (sendable, crosses, flow_send, orders_send) depth 20

bucket_send : (a : _) → IsSend (bucket_row a)
bucket_send a = search (sendable, crosses, table_send, uses_send, ended_send, capture_sync) depth 20

seg_note_send : IsSend seg_note
seg_note_send = search (sendable, crosses) depth 20

pool_note_send : IsSend pool_note
pool_note_send = search (sendable, crosses) depth 20

bucket_note_send : IsSend bucket_note
bucket_note_send = search (sendable, crosses) depth 20

-- the roles, with their passes
bucket_pass_send : (a : _) → IsSend (pass_row (bucket_row a) bucket_call bucket_reply bucket_note fixed_row bucket_ghosts)
bucket_pass_send a = pass_sent.the_send (bucket_row a) bucket_call bucket_reply bucket_note fixed_row bucket_ghosts (bucket_send a) bucket_note_send

passes_send : (a : _) → IsSend (passes_field a).row
passes_send a = struct_send (shape (passes_type a)) (
  pass_sent.the_field_send pool_row pool_call pool_reply pool_note pool_setting pool_ghosts pool_send pool_note_send,
  (
    pass_sent.the_field_send seg_row seg_call seg_reply seg_note u32 seg_ghosts segments_send seg_note_send,
    (Vec-send _ (bucket_pass_send a), (search sendable, tt)),
  ),
)

worker_send : (a : _) → IsSend (worker_field a).row
worker_send a = struct_send (shape (worker_type a)) (passes_send a, (Deque-send _ ended_send, (Vec-send _ line_send, tt)))

manager_send : (a : _) → IsSend (manager_field a).row
manager_send a = struct_send (shape (manager_type a)) (passes_send a, (Vec-send _ ended_send, tt))

recycler_send : (a : _) → IsSend (recycler_field a).row
recycler_send a = struct_send (shape (recycler_type a)) (passes_send a, (Deque-send _ ended_send, (Vec-send _ line_send, tt)))

part_send : (a : _) → IsSend (part_field a).row
part_send a = search (sendable, crosses, worker_send, manager_send, recycler_send) depth 12

pub role_sent : (a : _) → IsSend (role_row a)
role_sent a = recorded_send (role_field a).row _ _ (role_type a).to_one (struct_send (shape (role_type a)) (part_send a, (search sendable, tt)))

-- what the roles share: the locks over the machines, and a round
pool_lock_sync : (n : _) → IsSync (lock_field pool_row pool_call pool_reply pool_note pool_setting pool_ghosts n).row
pool_lock_sync n = lock_sent.the_field_sync pool_row pool_call pool_reply pool_note pool_setting pool_ghosts n pool_send pool_note_send

segments_lock_sync : (n : _) → IsSync (lock_field seg_row seg_call seg_reply seg_note u32 seg_ghosts n).row
segments_lock_sync n = lock_sent.the_field_sync seg_row seg_call seg_reply seg_note u32 seg_ghosts n segments_send seg_note_send

bucket_lock_sync : (a n : _) → IsSync (lock_row (bucket_row a) bucket_call bucket_reply bucket_note fixed_row bucket_ghosts n)
bucket_lock_sync a n = lock_sent.the_sync (bucket_row a) bucket_call bucket_reply bucket_note fixed_row bucket_ghosts n (bucket_send a) bucket_note_send

layout_sync : IsSync layout_field.row
layout_sync = search sendable depth 20

pub shared_sync : (a : _) → IsSync (shared_row a)
shared_sync a = recorded_sync (shared_field a).row _ _ (shared_type a).to_one (struct_sync (shape (shared_type a))
    (search (sendable, capture_sync), (layout_sync, (search (pool_lock_sync), (search (segments_lock_sync), (search (crosses, bucket_lock_sync), tt))))))

heap_sync : IsSync heap_field.row
heap_sync = search sendable depth 20

pub round_sync : (s c : _) → IsSync (round_row s c)
round_sync s c = recorded_sync (round_field s c).row _ _ (round_type s c).to_one (struct_sync (shape (round_type s c)) (heap_sync, (search (sendable, shared_sync), (search sendable, tt))))
