-- A legal history of a pool keeps the rules of counting.
use Rattle.std.proofs.Common.{◌≤◌, ℕ, List, [], ◌∷◌, refl, sym, subst, arith}
use Rattle.suri_base.specs.declared.entry.Entry.{Entry}
use Rattle.suri_base.specs.declared.entry.SegNote.{SegNote}
use Rattle.suri_base.specs.declared.entry.SegNote.TheVariants as note
use Rattle.suri_base.specs.History.{Legal}
use Rattle.segment_pool.specs.declared.calls.SegCall.{SegCall}
use Rattle.segment_pool.specs.declared.calls.SegCall.TheVariants as call
use Rattle.segment_pool.specs.declared.calls.SegReply.{SegReply}
use Rattle.segment_pool.specs.declared.calls.SegReply.TheVariants as reply
use Rattle.segment_pool.specs.Counting.{out_after, out_of, Answered, MayCall, StandsAt, KeepsRules}

answered_stands : (limit out : ℕ) (c : SegCall) (r : SegReply) (said : SegNote) → Answered limit out c r said → StandsAt limit out said
answered_stands limit out (call.Take frame) (reply.Node n) said a = subst (StandsAt limit out) (sym a.2) a.0
answered_stands limit out (call.Take frame) (reply.Full m l) said a = subst (StandsAt limit out) (sym a.3) (a.0, refl, refl)
answered_stands limit out (call.Take frame) reply.Gave said a = absurd a
answered_stands limit out (call.Give nodes) (reply.Node n) said a = absurd a
answered_stands limit out (call.Give nodes) (reply.Full m l) said a = absurd a
answered_stands limit out (call.Give nodes) reply.Gave said a = subst (StandsAt limit out) (sym a) tt

pub rules_kept : (limit : ℕ) (past : List (Entry SegNote)) → Legal (λ role list c. MayCall c) (λ list role c r said. Answered limit (out_of list) c r said) past → KeepsRules limit past
rules_kept limit [] legal = tt
rules_kept limit (e ∷ past) legal = let f = legal.0 in (answered_stands limit (out_of past) f.0 f.1 e.note f.3, rules_kept limit past legal.1)

still_within : (limit out : ℕ) (said : SegNote) → StandsAt limit out said → out ≤ limit → out_after out said ≤ limit
still_within limit out (note.Took frame) s low = omega arith
still_within limit out (note.Full frame n l) s low = low
still_within limit out (note.Gave count) s low = omega arith

pub within_limit : (limit : ℕ) (past : List (Entry SegNote)) → KeepsRules limit past → out_of past ≤ limit
within_limit limit [] kept = omega arith
within_limit limit (e ∷ past) kept = still_within limit (out_of past) e.note kept.0 (within_limit limit past kept.1)
