-- A packet is closed, and the nodes that came back are given back.
use Rattle.std.proofs.Common.{◌≡◌, ℕ, zero, suc, ◌==◌, ◌<◌, ◌^◌, Bool, true, false, ◌&&◌, List, [], ◌++◌, length, reverse, Option, Some, refl, sym, ◌∙◌, ap, subst, arith, if◌then◌else◌}
use Rattle.std.specs.Option.{is_some, option_to_list}
use Rattle.std.proofs.lemmas.Bool.Decides.{nat_tests}
use Rattle.flow_bucket.specs.declared.calls.BucketCall.TheVariants as call
use Rattle.flow_bucket.specs.declared.calls.BucketReply.TheVariants as reply
use Rattle.flow_object.specs.Ending.{EndedFlow}
use Rattle.bucket_rules.specs.Own.{is_refused}
use Rattle.flow_bucket.specs.declared.calls.BucketReply.{BucketReply}
use Rattle.flow_worker.specs.Looking.{IsVerdict}
use Rattle.role_steps.specs.declared.roles.Passes.{Passes}
use Rattle.run_rules.specs.Histories.{bucket_at}
use Rattle.bucket_rules.specs.Rule.{IsLegal, Rule}
use Rattle.flow_worker.proofs.Seen.{seen_legal}
use Rattle.role_steps.proofs.Holding.{few_nodes}
use Rattle.suri_base.specs.declared.entry.BucketNote.{BucketNote}
use Rattle.suri_base.specs.declared.entry.Entry.{Entry}
use Rattle.flow_worker.specs.Places.{is_closing, is_freeing, to_closing, to_freeing}
use Rattle.flow_worker.specs.Standing.{Goes, refused_in}
use Rattle.flow_worker.proofs.Moving.{moved_bucket, moved_on}
use Rattle.flow_worker.proofs.Words.{and_true, is_same, nil_end, only_true, same_yes}
use Rattle.role_steps.specs.Calls.{CalledBucket}
use Rattle.role_steps.specs.Finishing.{given}
use Rattle.role_steps.specs.Items.{Items, LinesOf}
use Rattle.role_steps.specs.Roles.{Acted, IsShared, number_of, seen, setup_of}
use Rattle.role_steps.specs.declared.roles.Shared.{Shared}
use Rattle.role_steps.specs.declared.roles.Worker.{Worker}
use Rattle.role_steps.proofs.LettingGo.{items_grow}
use Rattle.run_rules.specs.Acts.{Act, on_segments}
use Rattle.run_rules.specs.Serving.{finished}
use Rattle.run_rules.specs.Setup.{Setup, bucket_for, fixed_at, verdict_for, work_of}
use Rattle.run_rules.specs.Worker.{Stage, Stand, at, bucket_step, close_on, free_on, freeing, fresh, held_at, is_for, moved, same_app, segments_step, stand_after}
use Rattle.suri_base.specs.declared.app.App.{App}
use Rattle.suri_base.specs.declared.app.App.TheVariants as app
use Rattle.suri_base.specs.declared.entry.BucketNote.TheVariants.{Closed, Idle}
use Rattle.suri_base.specs.declared.entry.SegNote.TheVariants as seg

same_app_yes : (a : App) → same_app a a ≡ true
same_app_yes app.None = refl
same_app_yes app.Http = refl
same_app_yes app.Tls = refl
same_app_yes app.Ssh = refl
same_app_yes app.Dns = refl

app_is : (a b : App) → a ≡ b → same_app a b ≡ true
app_is a b e = subst (λ (x : App). same_app a x ≡ true) e (same_app_yes a)

some_freed : (n : ℕ) → (suc n == 0) ≡ false
some_freed n = grind (arith, nat_tests)

free_some : (n : ℕ) (todo : List ℕ) → free_on (suc n) todo ≡ freeing (suc n) todo
free_some n todo = ap (λ (t : Bool). if t then close_on todo else freeing (suc n) todo) (some_freed n)

given_none : (n : ℕ) → finished (given n) ≡ []
given_none zero = refl
given_none (suc n) = refl

given_refuses : (n : ℕ) → refused_in (given n) ≡ []
given_refuses zero = refl
given_refuses (suc n) = refl

free_all : (w : Setup) (st start : Stand) (before : List Act) (n : ℕ) (todo : List ℕ) → stand_after w start before ≡ Some st → st.stage ≡ free_on n todo
    → stand_after w start (given n ++ before) ≡ Some (held_at (close_on todo) st.hand st)
free_all w st start before zero todo stood stage = stood ∙ ap (λ (p : Stage). Some (held_at p st.hand st)) stage
free_all w st start before (suc n) todo stood stage =
    ap (moved w (on_segments (seg.Gave (suc n)))) stood ∙ (ap (λ (p : Stage). segments_step w p st (seg.Gave (suc n))) (stage ∙ free_some n todo)
    ∙ only_true (suc n == suc n) (at (close_on todo) st) (same_yes (suc n)))

pub gave_back : (s : Shared) (old new : Worker) (n : ℕ) → Acted s old.passes new.passes (given n) → new.hand ≡ old.hand → new.lines ≡ old.lines → Goes s old new (is_freeing n) to_closing []
gave_back s old new n a hand lines = λ before st todo is stage.
    moved_on s old new before st (given n) (close_on todo) st.hand [] [] is a (ap (λ l. l.items) lines ∙ sym (nil_end old.lines.items))
    (subst (λ (x : List ℕ). LinesOf (setup_of s) (seen new.passes) (reverse x) []) (sym (given_none n)) tt) (given_refuses n)
    (free_all (setup_of s) st (fresh (work_of (setup_of s) (number_of old.passes))) before n todo is.stood stage)
    (subst (λ h. Items (setup_of s) (seen new.passes) st.hand h.items) (sym hand) (items_grow (setup_of s) (seen old.passes) (seen new.passes) a.grown st.hand old.hand.items is.hand))

module _ (s : Shared) (old new : Worker) (sh : IsShared s) (b f : ℕ) (real : b < length s.buckets.items) (home : b ≡ bucket_for (setup_of s) f) where
  for_it : is_for (setup_of s) f b f ≡ true
  for_it = and_true (f == f) (b == bucket_for (setup_of s) f) (same_yes f) (is_same b (bucket_for (setup_of s) f) home)

  pub closed : (a : App) (run : ℕ) (freed : _) (ended : Option EndedFlow) → a ≡ verdict_for (setup_of s) f
      → CalledBucket s old.passes new.passes b (call.Close f a) (reply.Closed run freed ended) → new.hand.items ≡ old.hand.items ++ option_to_list ended → new.lines ≡ old.lines
      → Goes s old new (is_closing f) (to_freeing (length freed)) []
  closed a run freed ended verdict c hand lines = λ before st todo is stage.
      moved_bucket s old new b (call.Close f a) (reply.Closed run freed ended) sh real c (Closed f a run (length freed) (is_some ended)) c.answer.noted hand lines before st (free_on (length freed) todo) [] is (λ left. refl)
      (λ left items. ap (λ (p : Stage). bucket_step (setup_of s) p st b (Closed f a run (length freed) (is_some ended)) left) stage
      ∙ only_true (is_for (setup_of s) f b f && same_app a (verdict_for (setup_of s) f)) (held_at (free_on (length freed) todo) (st.hand ++ left) st)
      (and_true (is_for (setup_of s) f b f) (same_app a (verdict_for (setup_of s) f)) for_it (app_is a (verdict_for (setup_of s) f) verdict)))

  pub idled : (a : App) → a ≡ app.None → CalledBucket s old.passes new.passes b (call.Close f a) reply.Idle → new.hand.items ≡ old.hand.items ++ [] → new.lines ≡ old.lines
      → Goes s old new (is_closing f) to_closing []
  idled a verdict c hand lines = λ before st todo is stage.
      moved_bucket s old new b (call.Close f a) reply.Idle sh real c (Idle f a) c.answer.noted hand lines before st (close_on todo) [] is (λ left. refl)
      (λ left items. ap (λ (p : Stage). bucket_step (setup_of s) p st b (Idle f a) left) stage
      ∙ only_true (is_for (setup_of s) f b f && same_app a app.None) (held_at (close_on todo) (st.hand ++ left) st)
      (and_true (is_for (setup_of s) f b f) (same_app a app.None) for_it (app_is a app.None verdict)))

-- what the rule of a close says of the packet
pub is_verdict : (s : Shared) (k : Worker) (new : Passes) (b f : ℕ) (a : App) (r : BucketReply) (t : Bool) → (c : CalledBucket s k.passes new b (call.Close f a) r)
    → is_refused f c.stepped.before ≡ is_refused f (bucket_at b (seen k.passes).buckets)
    → is_refused f c.stepped.before ≡ t → IsVerdict s k b f a → a ≡ (if t then app.None else verdict_for (setup_of s) f)
is_verdict s k new b f a r t c stays is v = v ∙ ap (λ (x : Bool). if x then app.None else verdict_for (setup_of s) f) (sym stays ∙ is)

module _ (s : Shared) (old new : Passes) (b f : ℕ) (a : App) (r : BucketReply) (sh : IsShared s) (c : CalledBucket s old new b (call.Close f a) r) where
  pub legal_before : IsLegal (fixed_at (setup_of s) b) c.stepped.before
  legal_before =
      let whole = seen_legal s new sh c.fits b (omega (arith, c.stepped.rows, c.stepped.real)) in
      (subst (λ (h : List (Entry BucketNote)). IsLegal (fixed_at (setup_of s) b) h) c.stepped.bucket whole).1

  pub rule_of : (n : BucketNote) → c.note ≡ n → Rule (fixed_at (setup_of s) b) c.stepped.before (number_of old) n
  rule_of n noted = subst (λ (x : BucketNote). Rule (fixed_at (setup_of s) b) c.stepped.before (number_of old) x) noted c.answer.rule

  pub few_freed : (run freed : ℕ) (ended : Bool) → c.note ≡ Closed f a run freed ended → freed < 2 ^ 32
  few_freed run freed ended noted = omega (arith, (rule_of (Closed f a run freed ended) noted).3, few_nodes (fixed_at (setup_of s) b) c.stepped.before run sh.capture legal_before)
