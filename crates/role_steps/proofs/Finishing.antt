-- The acts by which a flow is finished.
use Rattle.std.proofs.Common.{◌≡◌, ℕ, zero, suc, ◌+◌, ◌<◌, false, List, [], ◌∷◌, length, sym, ◌∙◌, ap, subst, refl, arith, IsTrue}
use Rattle.flow_object.specs.Ending.{EndedFlow}
use Rattle.flow_object.specs.Object.{nodes_in}
use Rattle.flow_pool.specs.Pool.{FlowPoolAnswers, setting_of}
use Rattle.flow_pool.specs.declared.calls.PoolCall.TheVariants as poolcall
use Rattle.flow_pool.specs.declared.calls.PoolReply.{PoolReply}
use Rattle.flow_pool.specs.declared.calls.PoolReply.TheVariants as poolreply
use Rattle.hist_lock.specs.Locks.{made_with}
use Rattle.role_steps.specs.Calls.{CalledPool, CalledSegments}
use Rattle.role_steps.specs.Finishing.{IsFinished, given}
use Rattle.role_steps.specs.Roles.{Acted, number_of}
use Rattle.role_steps.specs.declared.roles.Passes.{Passes}
use Rattle.role_steps.specs.declared.roles.Shared.{Shared}
use Rattle.role_steps.proofs.Stepping.{acted_through, acted_pool, acted_segments}
use Rattle.run_rules.specs.Acts.{Act, on_pool, on_segments}
use Rattle.segment_pool.specs.Counting as segcount
use Rattle.segment_pool.specs.Pool.{limit_of}
use Rattle.segment_pool.specs.declared.calls.SegCall.TheVariants.{Give}
use Rattle.segment_pool.specs.declared.calls.SegReply.{SegReply}
use Rattle.segment_pool.specs.declared.calls.SegReply.TheVariants as segreply
use Rattle.suri_base.specs.declared.entry.PoolNote.{PoolNote}
use Rattle.suri_base.specs.declared.entry.PoolNote.TheVariants.{Put}
use Rattle.suri_base.specs.declared.entry.SegNote.{SegNote}
use Rattle.suri_base.specs.declared.entry.SegNote.TheVariants.{Gave}

-- notes by calls

noted_gave : (limit out : ℕ) (nodes : _) (r : SegReply) (said : SegNote) → segcount.Answered limit out (Give nodes) r said → said ≡ Gave (length nodes)
noted_gave limit out nodes segreply.Gave said h = h
noted_gave limit out nodes (segreply.Node n) said h = absurd h
noted_gave limit out nodes (segreply.Full m l) said h = absurd h

noted_put : (s : _) (past : _) (role run : ℕ) (obj : _) (r : PoolReply) (said : PoolNote) → FlowPoolAnswers s past role (poolcall.Put run obj) r said → said ≡ Put run
noted_put s past role run obj poolreply.Done said h = h
noted_put s past role run obj (poolreply.Obj o) said h = absurd h
noted_put s past role run obj (poolreply.Full m l) said h = absurd h
noted_put s past role run obj (poolreply.Turned o) said h = absurd h
noted_put s past role run obj (poolreply.On b) said h = absurd h
noted_put s past role run obj (poolreply.Ended b) said h = absurd h

-- nodes that are there are given back by one act

given_some : (m : ℕ) → 0 < m → given m ≡ on_segments (Gave m) ∷ []
given_some zero h = absurd (omega arith)
given_some (suc n) h = refl

some_length : {A : Type 0} (xs : List A) → (xs ≡ [] → ⊥) → 0 < length xs
some_length [] h = absurd (h refl)
some_length (x ∷ xs) h = omega arith

pub not_true : IsTrue false → ⊥
not_true h = cc

pub gave_done : (s : Shared) (old new : Passes) (nodes : _) (r : SegReply) → (nodes ≡ [] → ⊥) → CalledSegments s old new (Give nodes) r
    → Acted s old new (given (length nodes))
gave_done s old new nodes r some c =
    let act : c.act ≡ on_segments (Gave (length nodes))
    = c.stepped.is ∙ ap on_segments (noted_gave (limit_of (made_with s.segments)) (segcount.out_of c.stepped.before) nodes r c.note c.answer) in
    subst (λ (l : List Act). Acted s old new l) (ap (λ (a : Act). a ∷ []) act ∙ sym (given_some (length nodes) (some_length nodes some)))
    (acted_segments s old new (Give nodes) r c)

pub put_done : (s : Shared) (a b c : Passes) (e : EndedFlow) (run : ℕ) (obj : _) (r : PoolReply) → run ≡ e.run → Acted s a b (given (nodes_in e.obj))
    → CalledPool s b c (poolcall.Put run obj) r → IsFinished s a c e
put_done s a b c e run obj r is gave called =
    let at = length called.stepped.before + 1 in
    let act : called.act ≡ on_pool (Put e.run) at
    = called.stepped.is
    ∙ (ap (λ (n : PoolNote). on_pool n at) (noted_put (setting_of (made_with s.pool)) called.stepped.before (number_of b) run obj r called.note called.answer)
    ∙ ap (λ (n : ℕ). on_pool (Put n) at) is) in (
      at,
      acted_through s a b c (given (nodes_in e.obj)) (on_pool (Put e.run) at ∷ []) gave
          (subst (λ (x : Act). Acted s b c (x ∷ [])) act (acted_pool s b c (poolcall.Put run obj) r called)),
    )
