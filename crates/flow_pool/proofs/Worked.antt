-- A history worked out by hand: a pool of one object, whose emergency ends when it is back. The newest entry stands first.
use Rattle.std.proofs.Common.{◌≡◌, ℕ, true, false, List, [], ◌∷◌, Box, refl, arith}
use Rattle.std.specs.declared.alloc.Global.{Global}
use Rattle.suri_base.specs.declared.entry.Entry.{Entry}
use Rattle.suri_base.specs.declared.entry.PoolNote.{PoolNote}
use Rattle.suri_base.specs.declared.entry.PoolNote.TheVariants as note
use Rattle.suri_base.specs.History.{entry, Legal}
use Rattle.flow_object.specs.Object.{Object}
use Rattle.flow_pool.specs.declared.calls.PoolCall.TheVariants as call
use Rattle.flow_pool.specs.declared.calls.PoolReply.TheVariants as reply
use Rattle.flow_pool.specs.declared.calls.PoolSetting.{PoolSetting}
use Rattle.flow_pool.specs.Counting.{flows_out, is_on, FlowPoolRules, IsIdle}
use Rattle.flow_pool.specs.Pool.{FlowPoolMay, FlowPoolAnswers}

abbrev pub of_one : PoolSetting
of_one = record { memcap = 1; recovery = 100; depth = 0 }

abbrev pub taken : List (Entry PoolNote)
taken = entry 0 0 (note.Took 1) ∷ []

abbrev pub full : List (Entry PoolNote)
full = entry 1 0 (note.Full 2 1 1) ∷ taken

abbrev pub told : List (Entry PoolNote)
told = entry 1 1 (note.Mode true) ∷ full

abbrev pub too_few : List (Entry PoolNote)
too_few = entry 2 0 (note.Over 0 false) ∷ told

abbrev pub back : List (Entry PoolNote)
back = entry 0 1 (note.Put 1) ∷ too_few

abbrev pub ended : List (Entry PoolNote)
ended = entry 2 1 (note.Over 0 true) ∷ back

abbrev pub whole : List (Entry PoolNote)
whole = entry 1 2 (note.Mode false) ∷ ended

one_out : flows_out full ≡ 1
one_out = refl

none_out : flows_out whole ≡ 0
none_out = refl

begins : is_on full ≡ true
begins = refl

lasts : is_on back ≡ true
lasts = refl

ends_then : is_on ended ≡ false
ends_then = refl

-- it keeps the rules
pub lawful : FlowPoolRules of_one whole
lawful = (refl, (refl, (tt, (refl, (refl, ((refl, refl, refl), (omega arith, tt)))))))

-- it is legal, where there is an object to be lent
pub legal : (o : Box Object Global) → IsIdle of_one o.value → Legal (FlowPoolMay of_one) (FlowPoolAnswers of_one) whole
legal o idle = (
  (call.Mode, reply.On false, tt, (refl, refl)),
  (
    (call.Over 0, reply.Ended true, tt, (refl, refl)),
    (
      (call.Put 1 o, reply.Done, idle, refl),
      (
        (call.Over 0, reply.Ended false, tt, (refl, refl)),
        (
          (call.Mode, reply.On true, tt, (refl, refl)),
          (
            (call.Take 2, reply.Full 1 1, tt, (refl, refl, refl, refl)),
            (
              (call.Take 1, reply.Obj o, tt, (omega arith, idle, refl)),
              tt,
            ),
          ),
        ),
      ),
    ),
  ),
)

-- no object is refused while fewer than memcap are out
not_full_early : (n limit : ℕ) → FlowPoolRules of_one (entry 0 0 (note.Full 1 n limit) ∷ []) → ⊥
not_full_early n limit k = cc

-- none is taken once memcap are out
not_taken_late : FlowPoolRules of_one (entry 1 0 (note.Took 2) ∷ taken) → ⊥
not_taken_late k = let low = k.0 in omega (arith, low)

-- the mode is told as it is after the newest Full, and after the round that ended it
not_the_mode_before : FlowPoolRules of_one (entry 1 1 (note.Mode false) ∷ full) → ⊥
not_the_mode_before k = cc

not_the_mode_after : FlowPoolRules of_one (entry 1 2 (note.Mode true) ∷ ended) → ⊥
not_the_mode_after k = cc

-- an emergency ends neither too early nor too late, and only where there is one
not_ended_early : FlowPoolRules of_one (entry 2 0 (note.Over 0 true) ∷ told) → ⊥
not_ended_early k = cc

not_ended_late : FlowPoolRules of_one (entry 2 1 (note.Over 0 false) ∷ back) → ⊥
not_ended_late k = cc

not_ended_twice : FlowPoolRules of_one (entry 2 2 (note.Over 1 true) ∷ ended) → ⊥
not_ended_twice k = cc

-- what comes back when none is out isn't counted
never_below_none : flows_out (entry 0 0 (note.Put 7) ∷ []) ≡ 0
never_below_none = refl
