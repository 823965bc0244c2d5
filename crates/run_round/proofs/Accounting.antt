-- What the end of a run says of its capture. The lines of all roles stand in one list, role by role, and so they are cut into those of each
-- role: those of the roles below a number are as many of the first ones as these roles finished runs. So each role told its runs, and the
-- records of all of them, by the runs' numbers, are one for each run. All else is said of each lawful trail.
use Rattle.std.proofs.Common.{◌≡◌, ℕ, zero, suc, ◌<◌, List, [], ◌∷◌, ◌++◌, length, reverse, refl, sym, ap, ◌∙◌, subst, arith, append_assoc, length-append, take, drop, take-add}
use mathlib.Core.Logic.{dite}
use native.Mathlib.Decide.{ℕ_discrete}
use Rattle.std.proofs.lemmas.List.{append-nil}
use Rattle.std.specs.List.Sorted.{IsNonDecreasingBy, IsPermutation}
use Rattle.end_laws.specs.Ended.{IsRunEnd, all_finished}
use Rattle.flow_object.specs.declared.outcome.FlowLine.{FlowLine}
use Rattle.lock_rows.specs.Rows.{Pairs}
use Rattle.bucket_laws.proofs.Naming.{named}
use Rattle.record_laws.proofs.Gathering.{whole}
use Rattle.record_laws.specs.Telling.{HaveTold, told_below}
use Rattle.role_steps.specs.Items.{IsLine, LinesOf}
use Rattle.round_laws.proofs.Later.{put_later}
use Rattle.round_laws.proofs.Naming.{named_soon}
use Rattle.round_laws.proofs.Rising.{went_by_rounds}
use Rattle.run_laws.proofs.Drained.{drained}
use Rattle.run_laws.proofs.Ending.{has_cause}
use Rattle.run_laws.proofs.Giving.{put_back, turned_back}
use Rattle.run_laws.proofs.Placing.{counted_once, cut_whole}
use Rattle.run_laws.proofs.Refusing.{refused_for}
use Rattle.run_laws.proofs.Uses.{returned}
use Rattle.run_laws.specs.Setting.{IsSetup}
use Rattle.run_round.proofs.Leaving.{closes_own, leaves_once}
use Rattle.run_round.specs.Accounts.{AccountsFor, AccountsOver, AreRecords}
use Rattle.run_rules.specs.Acts.{Act}
use Rattle.run_rules.specs.Histories.{Histories, bucket_at, histories_of}
use Rattle.run_rules.specs.Lawful.{AreLawful}
use Rattle.run_rules.specs.Serving.{finished}
use Rattle.run_rules.specs.Setup.{Setup, fixed_at, roles}
use Rattle.suri_base.specs.Trail.{Trailed}
use Rattle.sweep_laws.proofs.Leaving.{looks_meet_none}

-- pairs with two lists behind each other, in two parts

module _ {A B : Type 0} (P : A → B → Type 0) where
  pairs_front : (xs ys : List A) (ls : List B) → Pairs P (xs ++ ys) ls → Pairs P xs (take (length xs) ls)
  pairs_front [] ys ls h = tt
  pairs_front (x ∷ xs) ys (l ∷ ls) h = (h.0, pairs_front xs ys ls h.1)
  pairs_front (x ∷ xs) ys [] h = absurd h

  pairs_back : (xs ys : List A) (ls : List B) → Pairs P (xs ++ ys) ls → Pairs P ys (drop (length xs) ls)
  pairs_back [] ys ls h = h
  pairs_back (x ∷ xs) ys (l ∷ ls) h = pairs_back xs ys ls h.1
  pairs_back (x ∷ xs) ys [] h = absurd h

  -- a pair for each: none is left over
  pairs_all : (xs : List A) (ls : List B) → Pairs P xs ls → take (length xs) ls ≡ ls
  pairs_all [] [] h = refl
  pairs_all (x ∷ xs) (l ∷ ls) h = ap (λ (m : List B). l ∷ m) (pairs_all xs ls h.1)
  pairs_all [] (l ∷ ls) h = absurd h
  pairs_all (x ∷ xs) [] h = absurd h

-- what each role told, of the lines of all

abbrev told_by : (ℕ → List Act) → List FlowLine → ℕ → List FlowLine
told_by acts lines role = take (length (reverse (finished (acts role)))) (drop (length (all_finished acts role)) lines)

told_first : (acts : ℕ → List Act) (lines : List FlowLine) (n : ℕ) → told_below n (told_by acts lines) ≡ take (length (all_finished acts n)) lines
told_first acts lines zero = refl
told_first acts lines (suc n) =
    ap (λ (l : List FlowLine). l ++ told_by acts lines n) (told_first acts lines n)
    ∙ (sym (take-add (length (all_finished acts n)) (length (reverse (finished (acts n)))) lines)
    ∙ ap (λ (k : ℕ). take k lines) (sym (length-append (all_finished acts n) (reverse (finished (acts n))))))

module _ (w : Setup) (t : Histories) (acts : ℕ → List Act) (lines : List FlowLine) where
  told_each : (n : ℕ) (rest : List ℕ) → LinesOf w t (all_finished acts n ++ rest) lines → (role : ℕ) → role < n → LinesOf w t (reverse (finished (acts role))) (told_by acts lines role)
  told_each zero rest h role below = absurd (omega (arith, below))
  told_each (suc n) rest h role below =
      let own : List ℕ = reverse (finished (acts n)) in
      let apart : LinesOf w t (all_finished acts n ++ (own ++ rest)) lines = subst (λ (l : List ℕ). LinesOf w t l lines) (append_assoc (all_finished acts n) own rest) h in
      dite (ℕ_discrete role n)
      (λ is. subst (λ (r : ℕ). LinesOf w t (reverse (finished (acts r))) (told_by acts lines r)) (sym is)
      (pairs_front (λ (a : ℕ) (l : FlowLine). IsLine w t a l) own rest (drop (length (all_finished acts n)) lines)
      (pairs_back (λ (a : ℕ) (l : FlowLine). IsLine w t a l) (all_finished acts n) (own ++ rest) lines apart)))
      (λ not. told_each n (own ++ rest) apart role (less role n not below))
    where
      less : (i k : ℕ) → (i ≡ k → ⊥) → i < suc k → i < k
      less i k not below = omega (arith, not, below)

  have_told : LinesOf w t (all_finished acts (roles w)) lines → HaveTold w t acts (told_by acts lines)
  have_told h role below = told_each (roles w) [] (subst (λ (l : List ℕ). LinesOf w t l lines) (sym (append-nil (all_finished acts (roles w)))) h) role below

  told_all : LinesOf w t (all_finished acts (roles w)) lines → told_below (roles w) (told_by acts lines) ≡ lines
  told_all h = told_first acts lines (roles w) ∙ pairs_all (λ (a : ℕ) (l : FlowLine). IsLine w t a l) (all_finished acts (roles w)) lines h

pub records_of_run : (w : Setup) (t : Histories) (lines sorted : List FlowLine) → IsSetup w → IsRunEnd w t lines → IsPermutation lines sorted
    → IsNonDecreasingBy (λ l. l.sums.first_no) sorted → AreRecords w t sorted
records_of_run w t lines sorted d e p rising =
    let acts : ℕ → List Act = e.lawful.scripted.acts in
    whole w t d e.lawful (told_by acts lines) (have_told w t acts lines e.told) sorted
    (subst (λ (l : List FlowLine). IsPermutation l sorted) (sym (told_all w t acts lines e.told)) p) rising

pub accounts_over : (w : Setup) (t : Histories) → IsSetup w → AreLawful w t → AccountsOver w t
accounts_over w t d l = record {
  once = λ p i. counted_once w d t l.scripted p i;
  cut = λ k. cut_whole w d t l.scripted k;
  causes = λ b h a m. has_cause w d t l.scripted b h a m;
  refusals = λ k b h role step f past a. refused_for w d t k.scripted b h role step f past a;
  returned = returned w t l;
  put = λ role step run past a. put_back w t l.scripted role step run past a;
  turned = λ role step run f past a. turned_back w t l.scripted role step run f past a;
  leaves = λ b h. leaves_once (fixed_at w b) d.capture (bucket_at b t.buckets) (l.scripted.legal.buckets b h) (drained w t l.scripted b h);
  named = λ b h. named (fixed_at w b) (bucket_at b t.buckets) (l.scripted.legal.buckets b h);
  closed = λ b h. closes_own (fixed_at w b) d.capture (bucket_at b t.buckets) (l.scripted.legal.buckets b h);
}

pub accounted : (w : Setup) (t : Trailed) (lines sorted : List FlowLine) → IsSetup w → t.layout ≡ w.layout → IsRunEnd w (histories_of t) lines → IsPermutation lines sorted
    → IsNonDecreasingBy (λ l. l.sums.first_no) sorted → AccountsFor w t sorted
accounted w t lines sorted d laid e p rising =
    let by_rounds = went_by_rounds w d (histories_of t) e.lawful.scripted e.rounds in record {
      setup = d;
      lawful = record { layout = laid; histories = e.lawful };
      rounds = by_rounds;
      later = put_later w d (histories_of t) e.lawful.scripted by_rounds.in_rounds;
      soon = named_soon w d (histories_of t) e.lawful.scripted by_rounds.in_rounds;
      stays = λ b h. looks_meet_none w (histories_of t) e.lawful.scripted d by_rounds b h;
      records = records_of_run w (histories_of t) lines sorted d e p rising;
      accounts = accounts_over w (histories_of t) d e.lawful;
    }
