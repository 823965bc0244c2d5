-- A run that began leaves its drained bucket once. A packet of a run is closed where it uses it no more; so the entry that lets the run go finds
-- all of them closed, since it leaves no use open. Members stay members, and a run that left stays as it was.
use Rattle.std.proofs.Common.{◌≡◌, ℕ, ◌==◌, Bool, true, false, cond, not, ◌&&◌, ◌||◌, List, [], ◌∷◌, ◌++◌, Option, Some, None, ◌⊎◌, ⊎_elim, inl, inr, refl, sym, ◌∙◌, ap, subst}
use Rattle.suri_base.specs.Capture.{IsCapture}
use Rattle.suri_base.specs.History.{entry}
use Rattle.suri_base.specs.declared.app.App.{App}
use Rattle.suri_base.specs.declared.entry.BucketNote.{BucketNote}
use Rattle.suri_base.specs.declared.entry.BucketNote.TheVariants.{Found, Missing, Made, Refused, Stored, Stopped, Closed, Idle, Victim, AllInUse, Swept, Drained}
use Rattle.suri_base.specs.declared.entry.Entry.{Entry}
use Rattle.suri_base.specs.declared.facts.Facts.{Facts}
use Rattle.bucket_laws.proofs.Draining.{all_left}
use Rattle.bucket_laws.proofs.Leaving.{once}
use Rattle.bucket_laws.proofs.Listing.{bearing_no}
use Rattle.bucket_laws.proofs.Naming.{named, unnamed}
use Rattle.bucket_laws.proofs.Staying.{unchanged}
use Rattle.bucket_laws.proofs.Steps.{begins_blank, here_made, legal_at, made_split}
use Rattle.bucket_laws.proofs.Tests.{both, neither, not_true, or_left, or_right, same}
use Rattle.bucket_laws.specs.Counts.{one_if}
use Rattle.bucket_laws.specs.Draining.{is_drained}
use Rattle.bucket_laws.specs.Naming.{IsMember, names}
use Rattle.bucket_laws.specs.Places.{At, History, In}
use Rattle.bucket_rules.proofs.Opening.{uses_kept}
use Rattle.bucket_rules.proofs.Rowing.{after-members, after-uses, begins, members_after, uses_after}
use Rattle.bucket_rules.proofs.Soundness.{sound}
use Rattle.bucket_rules.specs.Own.{closes, is_closed}
use Rattle.bucket_rules.specs.Packets.{bearing}
use Rattle.bucket_rules.specs.Row.{Row, has, is_here, is_linked, is_none_of, lets_go, made, row, with_packet}
use Rattle.bucket_rules.specs.Rule.{IsLegal}
use Rattle.bucket_rules.specs.declared.fixed.Fixed.{Fixed}
use Rattle.run_round.specs.Leaving.{LeavesOnce}

-- an entry of a history, with what came since

since_of : (e : Entry BucketNote) (past history : History) → At e past history → (since : History) × (history ≡ since ++ e ∷ past)
since_of e past [] i = absurd i
since_of e past (x ∷ history) (inl h) = ([], ap (λ (y : Entry BucketNote). y ∷ history) h.0 ∙ ap (λ (l : History). e ∷ l) h.1)
since_of e past (x ∷ history) (inr i) = let k = since_of e past history i in (x ∷ k.0, ap (λ (l : History). x ∷ l) k.1)

legal_since : (s : Fixed) (since old : History) → IsLegal s (since ++ old) → IsLegal s old
legal_since s [] old l = l
legal_since s (e ∷ since) old l = legal_since s since old l.1

-- members stay

in_packet : (t : Facts) (o : Option Facts) (ms : List Facts) → In t ms → In t (with_packet o ms)
in_packet t None ms i = i
in_packet t (Some u) ms i = inr i

stays_member : (s : Fixed) (n : BucketNote) (a : ℕ) (t : Facts) (ms : List Facts) → (begins n a ≡ true → ms ≡ []) → In t ms → In t (members_after s n a ms)
stays_member s (Found g emergency seen run said) a t ms new i = by (run == a)
  where
    by : (c : Bool) → In t (cond c (with_packet (bearing s.capture g) ms) ms)
    by true = in_packet t (bearing s.capture g) ms i
    by false = i
stays_member s (Made g said) a t ms new i = by (g == a) new
  where
    by : (c : Bool) → (c ≡ true → ms ≡ []) → In t (cond c (with_packet (bearing s.capture g) []) ms)
    by true new = in_packet t (bearing s.capture g) [] (subst (λ (l : List Facts). In t l) (new refl) i)
    by false new = i
stays_member s (Missing g emergency seen ended) a t ms new i = i
stays_member s (Refused g) a t ms new i = i
stays_member s (Stored g) a t ms new i = i
stays_member s (Stopped g) a t ms new i = i
stays_member s (Closed g app run freed ended) a t ms new i = i
stays_member s (Idle g app) a t ms new i = i
stays_member s (Victim g run) a t ms new i = i
stays_member s (AllInUse g count) a t ms new i = i
stays_member s (Swept round emergency seen count) a t ms new i = i
stays_member s (Drained count) a t ms new i = i

still_member : (s : Fixed) (since old : History) (a : ℕ) (t : Facts) → IsLegal s (since ++ old) → In t (row s a old).members → In t (row s a (since ++ old)).members
still_member s [] old a t l i = i
still_member s (e ∷ since) old a t l i =
    let w : Row = row s a (since ++ old) in
    subst (λ (ms : List Facts). In t ms) (sym (after-members s a e.note w))
    (stays_member s e.note a t w.members
    (λ b. ap (λ (v : Row). v.members) (begins_blank s (since ++ old) e.role e.note a (sound s (since ++ old) l.1) l.0 b))
    (still_member s since old a t l.1 i))

-- a member uses its run, or is closed

new_member : (s : Fixed) (n : BucketNote) (a : ℕ) (t : Facts) (us : List ℕ) (ms : List Facts) → In t (members_after s n a ms)
    → (In t ms × (begins n a ≡ false)) ⊎ ((g : ℕ) × (bearing s.capture g ≡ Some t) × (has (uses_after n a us) g ≡ true))
new_member s (Found g emergency seen run said) a t us ms i = by (run == a) (bearing s.capture g) refl i
  where
    by : (c : Bool) (o : Option Facts) → bearing s.capture g ≡ o → In t (cond c (with_packet o ms) ms)
        → (In t ms × (false ≡ false)) ⊎ ((f : ℕ) × (bearing s.capture f ≡ Some t) × (has (cond c (g ∷ us) us) f ≡ true))
    by false o b i = inl (i, refl)
    by true None b i = inl (i, refl)
    by true (Some u) b (inl e) = inr (g, b ∙ ap (λ (v : Facts). Some v) e, or_left (g == g) (has us g) (same g g refl))
    by true (Some u) b (inr i) = inl (i, refl)
new_member s (Made g said) a t us ms i = by (g == a) (bearing s.capture g) refl i
  where
    by : (c : Bool) (o : Option Facts) → bearing s.capture g ≡ o → In t (cond c (with_packet o []) ms)
        → (In t ms × (c ≡ false)) ⊎ ((f : ℕ) × (bearing s.capture f ≡ Some t) × (has (cond c (g ∷ []) us) f ≡ true))
    by false o b i = inl (i, refl)
    by true None b i = absurd i
    by true (Some u) b (inl e) = inr (g, b ∙ ap (λ (v : Facts). Some v) e, or_left (g == g) false (same g g refl))
    by true (Some u) b (inr i) = absurd i
new_member s (Missing g emergency seen ended) a t us ms i = inl (i, refl)
new_member s (Refused g) a t us ms i = inl (i, refl)
new_member s (Stored g) a t us ms i = inl (i, refl)
new_member s (Stopped g) a t us ms i = inl (i, refl)
new_member s (Closed g app run freed ended) a t us ms i = inl (i, refl)
new_member s (Idle g app) a t us ms i = inl (i, refl)
new_member s (Victim g run) a t us ms i = inl (i, refl)
new_member s (AllInUse g count) a t us ms i = inl (i, refl)
new_member s (Swept round emergency seen count) a t us ms i = inl (i, refl)
new_member s (Drained count) a t us ms i = inl (i, refl)

kept_or_closed : (f a : ℕ) (n : BucketNote) (us : List ℕ) (past : History) → begins n a ≡ false → (has us f ≡ true) ⊎ (is_closed f past ≡ true)
    → (has (uses_after n a us) f ≡ true) ⊎ ((closes f n || is_closed f past) ≡ true)
kept_or_closed f a n us past b (inr h) = inr (or_right (closes f n) (is_closed f past) h)
kept_or_closed f a n us past b (inl h) = by (closes f n) refl
  where
    by : (c : Bool) → closes f n ≡ c → (has (uses_after n a us) f ≡ true) ⊎ ((closes f n || is_closed f past) ≡ true)
    by true e = inr (or_left (closes f n) (is_closed f past) e)
    by false e = inl (uses_kept f a n us b e h)

used_or_closed : (s : Fixed) → IsCapture s.capture → (past : History) (a f : ℕ) (t : Facts) → bearing s.capture f ≡ Some t → In t (row s a past).members
    → (has (row s a past).uses f ≡ true) ⊎ (is_closed f past ≡ true)
used_or_closed s is [] a f t b i = absurd i
used_or_closed s is (e ∷ past) a f t b i =
    let w : Row = row s a past in
    let back : (has (uses_after e.note a w.uses) f ≡ true) ⊎ (is_closed f (e ∷ past) ≡ true) = ⊎_elim
    (λ k. kept_or_closed f a e.note w.uses past k.1 (used_or_closed s is past a f t b k.0))
    (λ k. inl (subst (λ (g : ℕ). has (uses_after e.note a w.uses) g ≡ true) (sym (bearing_no s.capture k.0 t is k.1) ∙ bearing_no s.capture f t is b) k.2))
    (new_member s e.note a t w.uses w.members (subst (λ (ms : List Facts). In t ms) (after-members s a e.note w) i)) in
    subst (λ (us : List ℕ). (has us f ≡ true) ⊎ (is_closed f (e ∷ past) ≡ true)) (sym (after-uses s a e.note w)) back

-- a run that leaves

none : (us : List ℕ) → is_none_of us ≡ true → us ≡ []
none [] h = refl
none (u ∷ us) h = cc

unused_after : (w v : Row) → (is_here w && not (is_here v)) ≡ true → v.uses ≡ []
unused_after w v h =
    none v.uses (not_false (is_none_of v.uses) (neither (is_linked v.place) (not (is_none_of v.uses)) (not_true (is_here v) (both (is_here w) (not (is_here v)) h).1)).1)
  where
    not_false : (p : Bool) → not p ≡ false → p ≡ true
    not_false true k = refl
    not_false false k = cc

-- it was there, so it had begun, and is there no more
left_after : (s : Fixed) (e : Entry BucketNote) (past : History) (a : ℕ) → IsLegal s past → lets_go s past e.note a ≡ true
    → (has (made (e ∷ past)) a ≡ true) × (is_here (row s a (e ∷ past)) ≡ false)
left_after s e past a l g =
    let k = both (is_here (row s a past)) (not (is_here (row s a (e ∷ past)))) g in
    (made_split e.note (made past) a ∙ or_right (begins e.note a) (has (made past) a) (here_made s past a (sound s past l) k.0), not_true (is_here (row s a (e ∷ past))) k.1)

let_alone : (s : Fixed) (later e : Entry BucketNote) (since past : History) (a : ℕ) → IsLegal s (later ∷ since ++ e ∷ past) → lets_go s past e.note a ≡ true
    → (names later.note a ≡ false) × (row s a (later ∷ since ++ e ∷ past) ≡ row s a (e ∷ past))
let_alone s later e since past a l g =
    let k = left_after s e past a (legal_since s since (e ∷ past) l.1).1 g in
    (unnamed s later since (e ∷ past) a l k.0 k.1, unchanged s (later ∷ since) (e ∷ past) a l k.0 k.1)

all_closed : (s : Fixed) → IsCapture s.capture → (e : Entry BucketNote) (since past : History) (a : ℕ) → IsLegal s (since ++ e ∷ past) → lets_go s past e.note a ≡ true
    → (f : ℕ) (p : Facts) → bearing s.capture f ≡ Some p → In p (row s a (since ++ e ∷ past)).members → is_closed f (e ∷ past) ≡ true
all_closed s is e since past a l g f p b i =
    let k = left_after s e past a (legal_since s since (e ∷ past) l).1 g in
    let there : In p (row s a (e ∷ past)).members = subst (λ (w : Row). In p w.members) (unchanged s since (e ∷ past) a l k.0 k.1) i in
    ⊎_elim
    (λ u. no_use (subst (λ (us : List ℕ). has us f ≡ true) (unused_after (row s a past) (row s a (e ∷ past)) g) u))
    (λ c. c)
    (used_or_closed s is (e ∷ past) a f p b there)
  where
    no_use : has [] f ≡ true → is_closed f (e ∷ past) ≡ true
    no_use h = cc

module _ (s : Fixed) (is : IsCapture s.capture) (history : History) (l : IsLegal s history) where
  legal_of : (since old : History) → history ≡ since ++ old → IsLegal s (since ++ old)
  legal_of since old h = subst (λ (x : History). IsLegal s x) h l

  pub leaves_once : is_drained history ≡ true → (a : ℕ) → has (made history) a ≡ true → LeavesOnce s history a
  leaves_once dry a m = record {
    once = sym (all_left s history a l dry) ∙ (once s history a l ∙ ap one_if m);
    unused = λ e past i g. unused_after (row s a past) (row s a (e ∷ past)) g;
    closed = λ e past i g f p b j.
        let k = since_of e past history i in
        all_closed s is e k.0 past a (legal_of k.0 (e ∷ past) k.1) g f p b (subst (λ (x : History). In p (row s a x).members) k.1 j);
    alone = λ e later past more i j g.
        let k = since_of e past more i in
        let legal : IsLegal s (later ∷ more) = legal_at s later more history l j in
        let z = let_alone s later e k.0 past a (subst (λ (x : History). IsLegal s (later ∷ x)) k.1 legal) g in
        (z.0, subst (λ (x : History). row s a (later ∷ x) ≡ row s a (e ∷ past)) (sym k.1) z.1);
  }

  pub closes_own : (role step f : ℕ) (app : App) (run freed : ℕ) (ended : Bool) (past : History) → At (entry role step (Closed f app run freed ended)) past history
      → IsMember s f (row s run history)
  closes_own role step f app run freed ended past i =
      let e : Entry BucketNote = entry role step (Closed f app run freed ended) in
      let own : IsMember s f (row s run past) = (named s history l e past i).1 in
      let k = since_of e past history i in
      let whole = legal_of k.0 (e ∷ past) k.1 in
      let near : In own.packet (row s run (e ∷ past)).members = still_member s (e ∷ []) past run own.packet (legal_since s k.0 (e ∷ past) whole) own.member in
      record {
        packet = own.packet;
        bears = own.bears;
        member = subst (λ (x : History). In own.packet (row s run x).members) (sym k.1) (still_member s k.0 (e ∷ past) run own.packet whole near);
      }
