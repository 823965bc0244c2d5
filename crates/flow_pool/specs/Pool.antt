-- A flow pool, as clauses name it.
use Rattle.std.specs.Prelude.{◌≡◌, ℕ, ◌-◌, ◌<◌, Bool, List, vec_len}
use Rattle.suri_base.specs.declared.entry.Entry.{Entry}
use Rattle.suri_base.specs.declared.entry.PoolNote.{PoolNote}
use Rattle.flow_pool.specs.declared.calls.PoolCall.{PoolCall}
use Rattle.flow_pool.specs.declared.calls.PoolCall.TheVariants as call
use Rattle.flow_pool.specs.declared.calls.PoolReply.{PoolReply}
use Rattle.flow_pool.specs.declared.calls.PoolSetting.{PoolSetting}
use Rattle.flow_pool.specs.declared.pool.FlowPool.{FlowPool}
use Rattle.flow_pool.specs.Counting.{flows_out, is_on, Answered, MayCall}

-- the pool's fixed part
abbrev pub setting_of : FlowPool → PoolSetting
setting_of pool = record { memcap = pool.memcap; recovery = pool.emergency.recovery; depth = pool.depth }

-- how many objects it has made
abbrev pub made_of : FlowPool → ℕ
made_of pool = pool.made

-- how many of them are spare
abbrev pub spare_of : FlowPool → ℕ
spare_of pool = vec_len pool.objects

-- how many of them are out
abbrev pub out_in : FlowPool → ℕ
out_in pool = made_of pool - spare_of pool

abbrev pub on_in : FlowPool → Bool
on_in pool = pool.emergency.on

-- the objects made less those spare are those out after this history, and the mode is that after it
pub record FlowPoolCounts (pool : FlowPool) (past : List (Entry PoolNote)) : Type 0 where
  pub out : out_in pool ≡ flows_out past
  pub on : on_in pool ≡ is_on past

-- some history tells how many of the pool's objects are out
abbrev pub HasFlowPast : FlowPool → Type 0
HasFlowPast pool = (past : List (Entry PoolNote)) × FlowPoolCounts pool past

-- only an object that is to be taken needs room: one is spare, unless memcap are out
abbrev pub FlowPoolRoom : FlowPool → PoolCall → Type 0
FlowPoolRoom pool (call.Take frame) = out_in pool < pool.memcap → 0 < spare_of pool
FlowPoolRoom pool c = Unit {0}

-- each role may make a call at any time, where the pool may keep what is handed in
abbrev pub FlowPoolMay : PoolSetting → ℕ → List (Entry PoolNote) → PoolCall → Type 0
FlowPoolMay s role past c = MayCall s c

-- what a call is answered hangs on how many objects are out and on the mode, whoever calls
abbrev pub FlowPoolAnswers : PoolSetting → List (Entry PoolNote) → ℕ → PoolCall → PoolReply → PoolNote → Type 0
FlowPoolAnswers s past role c r said = Answered s (flows_out past) (is_on past) c r said
