-- A legal history of a pool keeps the rules of counting.
use Rattle.std.proofs.Common.{◌≤◌, ℕ, Bool, List, [], ◌∷◌, refl, sym, subst, arith}
use Rattle.suri_base.specs.declared.entry.Entry.{Entry}
use Rattle.suri_base.specs.declared.entry.PoolNote.{PoolNote}
use Rattle.suri_base.specs.declared.entry.PoolNote.TheVariants as note
use Rattle.suri_base.specs.History.{Legal}
use Rattle.flow_pool.specs.declared.calls.PoolCall.{PoolCall}
use Rattle.flow_pool.specs.declared.calls.PoolCall.TheVariants as call
use Rattle.flow_pool.specs.declared.calls.PoolReply.{PoolReply}
use Rattle.flow_pool.specs.declared.calls.PoolReply.TheVariants as reply
use Rattle.flow_pool.specs.declared.calls.PoolSetting.{PoolSetting}
use Rattle.flow_pool.specs.Counting.{flows_out_after, flows_out, is_on, Answered, StandsAt, FlowPoolRules}
use Rattle.flow_pool.specs.Pool.{FlowPoolMay, FlowPoolAnswers}

answered_stands : (s : PoolSetting) (out : ℕ) (on : Bool) (c : PoolCall) (r : PoolReply) (said : PoolNote) → Answered s out on c r said → StandsAt s out on said
answered_stands s out on (call.Take frame) (reply.Obj o) said a = subst (StandsAt s out on) (sym a.2) a.0
answered_stands s out on (call.Take frame) (reply.Full m l) said a = subst (StandsAt s out on) (sym a.3) (a.0, refl, refl)
answered_stands s out on (call.Put run obj) reply.Done said a = subst (StandsAt s out on) (sym a) tt
answered_stands s out on (call.Turn run frame obj) (reply.Turned o) said a = subst (StandsAt s out on) (sym a.2) tt
answered_stands s out on call.Mode (reply.On b) said a = subst (StandsAt s out on) (sym a.1) refl
answered_stands s out on (call.Over round) (reply.Ended b) said a = subst (StandsAt s out on) (sym a.1) a.0
answered_stands s out on c r said a = absurd a

pub rules_kept : (s : PoolSetting) (past : List (Entry PoolNote)) → Legal (FlowPoolMay s) (FlowPoolAnswers s) past → FlowPoolRules s past
rules_kept s [] legal = tt
rules_kept s (e ∷ past) legal = let f = legal.0 in (answered_stands s (flows_out past) (is_on past) f.0 f.1 e.note f.3, rules_kept s past legal.1)

still_within : (s : PoolSetting) (out : ℕ) (on : Bool) (said : PoolNote) → StandsAt s out on said → out ≤ s.memcap → flows_out_after out said ≤ s.memcap
still_within s out on (note.Took frame) k low = omega arith
still_within s out on (note.Put run) k low = omega arith
still_within s out on (note.Full frame n l) k low = low
still_within s out on (note.Turn run frame) k low = low
still_within s out on (note.Mode told) k low = low
still_within s out on (note.Over round ended) k low = low

pub within_memcap : (s : PoolSetting) (past : List (Entry PoolNote)) → FlowPoolRules s past → flows_out past ≤ s.memcap
within_memcap s [] kept = omega arith
within_memcap s (e ∷ past) kept = still_within s (flows_out past) (is_on past) e.note kept.0 (within_memcap s past kept.1)
