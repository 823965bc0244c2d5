-- Hands are emptied one after another: what was in the first of them is in the queue, in the order of the roles. The recycler is the last role, and has no hand.
use Rattle.std.proofs.Common.{◌≡◌, ◌≢◌, ℕ, zero, suc, ◌<◌, ◌≤◌, List, [], ◌∷◌, ◌++◌, length, take, get_or, refl, sym, ap, ◌∙◌, arith, append_assoc}
use Rattle.std.proofs.lemmas.List.{append-nil}
use Rattle.flow_object.specs.Ending.{EndedFlow}
use Rattle.role_meets.specs.Parts.{Kind, works, manages, recycles, hand_of, kind_of, lines_of, passes_in, passes_of, waiting_of}
use Rattle.role_meets.specs.declared.roles.Part.{Part}
use Rattle.role_meets.specs.declared.roles.Part.TheVariants.{Work, Manage, Recycle}
use Rattle.role_meets.specs.declared.roles.Role.{Role}
use Rattle.role_steps.specs.Roles.{Fits}
use Rattle.role_steps.specs.declared.roles.Recycler.{Recycler}
use Rattle.role_steps.specs.declared.roles.Shared.{Shared}
use Rattle.round_laws.specs.Playing.{IsHandedOn, MayPlay, Played, hands_in, waits_for}
use Rattle.run_round.specs.Handing.{IsEmptied}

pub hands_next : (xs : List Role) (i : ℕ) (d : Role) → i < length xs → hands_in (take (suc i) xs) ≡ hands_in (take i xs) ++ hand_of (get_or xs i d).part
hands_next [] i d below = absurd (omega (arith, below))
hands_next (x ∷ xs) zero d below = append-nil (hand_of x.part)
hands_next (x ∷ xs) (suc i) d below =
    ap (λ (l : List EndedFlow). hand_of x.part ++ l) (hands_next xs i d (omega (arith, below))) ∙ sym (append_assoc (hand_of x.part) (hands_in (take i xs)) (hand_of (get_or xs i d).part))

pub take_over : (xs : List Role) (i : ℕ) → length xs ≤ i → take i xs ≡ xs
take_over [] zero h = refl
take_over [] (suc i) h = refl
take_over (x ∷ xs) zero h = absurd (omega (arith, h))
take_over (x ∷ xs) (suc i) h = ap (λ (l : List Role). x ∷ l) (take_over xs i (omega (arith, h)))

no_wait : (p : Part) → kind_of p ≢ recycles → waiting_of p ≡ []
no_wait (Work k) h = refl
no_wait (Manage m) h = refl
no_wait (Recycle r) h = absurd (h refl)

waits_none : (k : Kind) (queue : List EndedFlow) → k ≢ recycles → waits_for k queue ≡ []
waits_none works queue h = refl
waits_none manages queue h = refl
waits_none recycles queue h = absurd (h refl)

pub other_handed : (queue : List EndedFlow) (old new : Role) → kind_of old.part ≢ recycles → IsEmptied old new → IsHandedOn queue old new
other_handed queue old new apart e = record {
  kind = e.kind;
  passes = e.passes;
  lines = e.lines;
  failed = e.failed;
  hand = e.hand;
  waiting = no_wait new.part (λ h. apart (sym e.kind ∙ h)) ∙ sym (waits_none (kind_of old.part) queue apart);
}

pub last_handed : (queue : List EndedFlow) (old was new : Role) (r : Recycler) → was.part ≡ Recycle r → IsEmptied old was → kind_of new.part ≡ recycles → passes_of new ≡ r.passes
    → lines_of new.part ≡ r.lines.items → new.failed ≡ was.failed → hand_of new.part ≡ [] → waiting_of new.part ≡ queue → IsHandedOn queue old new
last_handed queue old was new r is e kind passes lines failed hand waiting =
    let was_kind : kind_of old.part ≡ recycles = sym e.kind ∙ ap kind_of is in record {
      kind = kind ∙ sym was_kind;
      passes = passes ∙ (sym (ap passes_in is) ∙ e.passes);
      lines = lines ∙ (sym (ap lines_of is) ∙ e.lines);
      failed = failed ∙ e.failed;
      hand = hand;
      waiting = waiting ∙ ap (λ (k : Kind). waits_for k queue) (sym was_kind);
    }

pub played_kind : (s : Shared) (round : ℕ) (p q : Part) → Played s round p q → kind_of q ≡ kind_of p
played_kind s round (Work a) (Work b) h = refl
played_kind s round (Work a) (Manage b) h = absurd h
played_kind s round (Work a) (Recycle b) h = absurd h
played_kind s round (Manage a) (Work b) h = absurd h
played_kind s round (Manage a) (Manage b) h = refl
played_kind s round (Manage a) (Recycle b) h = absurd h
played_kind s round (Recycle a) (Work b) h = absurd h
played_kind s round (Recycle a) (Manage b) h = absurd h
played_kind s round (Recycle a) (Recycle b) h = refl

pub played_fits : (s : Shared) (round : ℕ) (p q : Part) → MayPlay s round p → Played s round p q → Fits s (passes_in q)
played_fits s round (Work a) (Work b) may h = (h may.before may.hands may.worked).acted.fits
played_fits s round (Work a) (Manage b) may h = absurd h
played_fits s round (Work a) (Recycle b) may h = absurd h
played_fits s round (Manage a) (Work b) may h = absurd h
played_fits s round (Manage a) (Manage b) may h = h.fits
played_fits s round (Manage a) (Recycle b) may h = absurd h
played_fits s round (Recycle a) (Work b) may h = absurd h
played_fits s round (Recycle a) (Manage b) may h = absurd h
played_fits s round (Recycle a) (Recycle b) may h = h.0.fits
