-- List, fixed part and call fix the note, and the reply but for the contents of objects and nodes: proofs of two of a bucket's laws,
-- which stand here since the `impl` cites them.
use Rattle.std.proofs.Common.{◌≡◌, ℕ, ◌<◌, Bool, true, false, ◌||◌, List, [], ◌∷◌, map, Some, None, ⊎_elim, refl, sym, ◌∙◌, ap, subst, eq-eqb, All}
use Rattle.std.proofs.Math.Nat.{lt_irrefl, lt_trans}
use Rattle.std.proofs.lemmas.Bool.{cases_eq, cases_order, false≢true, ne_eqb, true≢false}
use Rattle.std.proofs.lemmas.List.Elements.{All-head, All-tail}
use Rattle.suri_base.specs.History.{BothAnswer, Legal}
use Rattle.suri_base.specs.declared.entry.BucketNote.{BucketNote}
use Rattle.suri_base.specs.declared.entry.BucketNote.TheVariants as note
use Rattle.suri_base.specs.declared.entry.Entry.{Entry}
use Rattle.flow_object.specs.Ending.{EndedFlow}
use Rattle.bucket_rules.specs.declared.fixed.Fixed.{Fixed}
use Rattle.bucket_rules.specs.Fixing.{Asked, asked}
use Rattle.bucket_rules.specs.Fixing as ask
use Rattle.bucket_rules.specs.Row.{Off, after, has, is_none_of, off, row}
use Rattle.bucket_rules.specs.Rule.{IsLegal}
use Rattle.bucket_rules.proofs.Fixing as fixing
use Rattle.bucket_rules.proofs.Soundness.{sound}
use Rattle.bucket_flow.specs.Held.{off_of}
use Rattle.flow_bucket.specs.LetGo.{AreRising, Below, IsEnded, IsLetGo, Told, runs, told}
use Rattle.flow_bucket.specs.Stands.{BucketAlike, BucketAnswers, BucketMay, Noted, Said, all_in_use, closed, drained, ended_in, found, idle, made, missing, refused, said_in, stopped, stored, swept, victim}
use Rattle.flow_bucket.specs.declared.calls.BucketCall.{BucketCall}
use Rattle.flow_bucket.specs.declared.calls.BucketCall.TheVariants as call
use Rattle.flow_bucket.specs.declared.calls.BucketReply.{BucketReply}
use Rattle.flow_bucket.specs.declared.calls.BucketReply.TheVariants as reply

-- a history that is legal in the machine's sense keeps the rules
pub legal_is : (s : Fixed) (past : List (Entry BucketNote)) → Legal (BucketMay s) (BucketAnswers s) past → IsLegal s past
legal_is s [] legal = tt
legal_is s (e ∷ past) legal = (legal.0.3.rule, legal_is s past legal.1)

-- the call, and the reply, by the note

abbrev asked_of : BucketCall → Asked
asked_of (call.Look f emergency seen) = ask.look f emergency seen
asked_of (call.Make f obj) = ask.make f
asked_of (call.Refuse f) = ask.refuse f
asked_of (call.Segment f None) = ask.stop f
asked_of (call.Segment f (Some node)) = ask.store f
asked_of (call.Close f app) = ask.close f app
asked_of (call.Evict f) = ask.evict f
asked_of (call.Sweep round emergency seen) = ask.sweep round emergency seen
asked_of call.Drain = ask.drain

abbrev said_by : BucketNote → List Told → Said
said_by (note.Found f emergency seen run said) gone = found run said
said_by (note.Missing f emergency seen ended) gone = missing gone
said_by (note.Made f said) gone = made said
said_by (note.Refused f) gone = refused
said_by (note.Stored f) gone = stored
said_by (note.Stopped f) gone = stopped
said_by (note.Closed f app run freed ended) gone = closed run freed gone
said_by (note.Idle f app) gone = idle
said_by (note.Victim f run) gone = victim gone
said_by (note.AllInUse f count) gone = all_in_use count
said_by (note.Swept round emergency seen count) gone = swept gone
said_by (note.Drained count) gone = drained gone

noted_says : (a : BucketCall) (r : BucketReply) (n : BucketNote) → Noted a r n
    → (asked n ≡ asked_of a) × (said_in r ≡ said_by n (map told (ended_in r)))
noted_says (call.Look f emergency seen) (reply.Found run said) n h = (ap asked h, sym (ap (λ m. said_by m (map told (ended_in (reply.Found run said)))) h))
noted_says (call.Look f emergency seen) (reply.Missing ended) n h = (ap asked h, sym (ap (λ m. said_by m (map told (ended_in (reply.Missing ended)))) h))
noted_says (call.Look f emergency seen) (reply.Made said) n h = absurd h
noted_says (call.Look f emergency seen) reply.Refused n h = absurd h
noted_says (call.Look f emergency seen) reply.Stored n h = absurd h
noted_says (call.Look f emergency seen) reply.Stopped n h = absurd h
noted_says (call.Look f emergency seen) (reply.Closed run freed ended) n h = absurd h
noted_says (call.Look f emergency seen) reply.Idle n h = absurd h
noted_says (call.Look f emergency seen) (reply.Victim e) n h = absurd h
noted_says (call.Look f emergency seen) (reply.AllInUse count) n h = absurd h
noted_says (call.Look f emergency seen) (reply.Swept es) n h = absurd h
noted_says (call.Look f emergency seen) (reply.Drained es) n h = absurd h
noted_says (call.Make f obj) (reply.Found run said) n h = absurd h
noted_says (call.Make f obj) (reply.Missing ended) n h = absurd h
noted_says (call.Make f obj) (reply.Made said) n h = (ap asked h, sym (ap (λ m. said_by m (map told (ended_in (reply.Made said)))) h))
noted_says (call.Make f obj) reply.Refused n h = absurd h
noted_says (call.Make f obj) reply.Stored n h = absurd h
noted_says (call.Make f obj) reply.Stopped n h = absurd h
noted_says (call.Make f obj) (reply.Closed run freed ended) n h = absurd h
noted_says (call.Make f obj) reply.Idle n h = absurd h
noted_says (call.Make f obj) (reply.Victim e) n h = absurd h
noted_says (call.Make f obj) (reply.AllInUse count) n h = absurd h
noted_says (call.Make f obj) (reply.Swept es) n h = absurd h
noted_says (call.Make f obj) (reply.Drained es) n h = absurd h
noted_says (call.Refuse f) (reply.Found run said) n h = absurd h
noted_says (call.Refuse f) (reply.Missing ended) n h = absurd h
noted_says (call.Refuse f) (reply.Made said) n h = absurd h
noted_says (call.Refuse f) reply.Refused n h = (ap asked h, sym (ap (λ m. said_by m (map told (ended_in reply.Refused))) h))
noted_says (call.Refuse f) reply.Stored n h = absurd h
noted_says (call.Refuse f) reply.Stopped n h = absurd h
noted_says (call.Refuse f) (reply.Closed run freed ended) n h = absurd h
noted_says (call.Refuse f) reply.Idle n h = absurd h
noted_says (call.Refuse f) (reply.Victim e) n h = absurd h
noted_says (call.Refuse f) (reply.AllInUse count) n h = absurd h
noted_says (call.Refuse f) (reply.Swept es) n h = absurd h
noted_says (call.Refuse f) (reply.Drained es) n h = absurd h
noted_says (call.Segment f (Some node)) (reply.Found run said) n h = absurd h
noted_says (call.Segment f (Some node)) (reply.Missing ended) n h = absurd h
noted_says (call.Segment f (Some node)) (reply.Made said) n h = absurd h
noted_says (call.Segment f (Some node)) reply.Refused n h = absurd h
noted_says (call.Segment f (Some node)) reply.Stored n h = (ap asked h, sym (ap (λ m. said_by m (map told (ended_in reply.Stored))) h))
noted_says (call.Segment f (Some node)) reply.Stopped n h = absurd h
noted_says (call.Segment f (Some node)) (reply.Closed run freed ended) n h = absurd h
noted_says (call.Segment f (Some node)) reply.Idle n h = absurd h
noted_says (call.Segment f (Some node)) (reply.Victim e) n h = absurd h
noted_says (call.Segment f (Some node)) (reply.AllInUse count) n h = absurd h
noted_says (call.Segment f (Some node)) (reply.Swept es) n h = absurd h
noted_says (call.Segment f (Some node)) (reply.Drained es) n h = absurd h
noted_says (call.Segment f None) (reply.Found run said) n h = absurd h
noted_says (call.Segment f None) (reply.Missing ended) n h = absurd h
noted_says (call.Segment f None) (reply.Made said) n h = absurd h
noted_says (call.Segment f None) reply.Refused n h = absurd h
noted_says (call.Segment f None) reply.Stored n h = absurd h
noted_says (call.Segment f None) reply.Stopped n h = (ap asked h, sym (ap (λ m. said_by m (map told (ended_in reply.Stopped))) h))
noted_says (call.Segment f None) (reply.Closed run freed ended) n h = absurd h
noted_says (call.Segment f None) reply.Idle n h = absurd h
noted_says (call.Segment f None) (reply.Victim e) n h = absurd h
noted_says (call.Segment f None) (reply.AllInUse count) n h = absurd h
noted_says (call.Segment f None) (reply.Swept es) n h = absurd h
noted_says (call.Segment f None) (reply.Drained es) n h = absurd h
noted_says (call.Close f app) (reply.Found run said) n h = absurd h
noted_says (call.Close f app) (reply.Missing ended) n h = absurd h
noted_says (call.Close f app) (reply.Made said) n h = absurd h
noted_says (call.Close f app) reply.Refused n h = absurd h
noted_says (call.Close f app) reply.Stored n h = absurd h
noted_says (call.Close f app) reply.Stopped n h = absurd h
noted_says (call.Close f app) (reply.Closed run freed ended) n h = (ap asked h, sym (ap (λ m. said_by m (map told (ended_in (reply.Closed run freed ended)))) h))
noted_says (call.Close f app) reply.Idle n h = (ap asked h, sym (ap (λ m. said_by m (map told (ended_in reply.Idle))) h))
noted_says (call.Close f app) (reply.Victim e) n h = absurd h
noted_says (call.Close f app) (reply.AllInUse count) n h = absurd h
noted_says (call.Close f app) (reply.Swept es) n h = absurd h
noted_says (call.Close f app) (reply.Drained es) n h = absurd h
noted_says (call.Evict f) (reply.Found run said) n h = absurd h
noted_says (call.Evict f) (reply.Missing ended) n h = absurd h
noted_says (call.Evict f) (reply.Made said) n h = absurd h
noted_says (call.Evict f) reply.Refused n h = absurd h
noted_says (call.Evict f) reply.Stored n h = absurd h
noted_says (call.Evict f) reply.Stopped n h = absurd h
noted_says (call.Evict f) (reply.Closed run freed ended) n h = absurd h
noted_says (call.Evict f) reply.Idle n h = absurd h
noted_says (call.Evict f) (reply.Victim e) n h = (ap asked h, sym (ap (λ m. said_by m (map told (ended_in (reply.Victim e)))) h))
noted_says (call.Evict f) (reply.AllInUse count) n h = (ap asked h, sym (ap (λ m. said_by m (map told (ended_in (reply.AllInUse count)))) h))
noted_says (call.Evict f) (reply.Swept es) n h = absurd h
noted_says (call.Evict f) (reply.Drained es) n h = absurd h
noted_says (call.Sweep round emergency seen) (reply.Found run said) n h = absurd h
noted_says (call.Sweep round emergency seen) (reply.Missing ended) n h = absurd h
noted_says (call.Sweep round emergency seen) (reply.Made said) n h = absurd h
noted_says (call.Sweep round emergency seen) reply.Refused n h = absurd h
noted_says (call.Sweep round emergency seen) reply.Stored n h = absurd h
noted_says (call.Sweep round emergency seen) reply.Stopped n h = absurd h
noted_says (call.Sweep round emergency seen) (reply.Closed run freed ended) n h = absurd h
noted_says (call.Sweep round emergency seen) reply.Idle n h = absurd h
noted_says (call.Sweep round emergency seen) (reply.Victim e) n h = absurd h
noted_says (call.Sweep round emergency seen) (reply.AllInUse count) n h = absurd h
noted_says (call.Sweep round emergency seen) (reply.Swept es) n h = (ap asked h, sym (ap (λ m. said_by m (map told (ended_in (reply.Swept es)))) h))
noted_says (call.Sweep round emergency seen) (reply.Drained es) n h = absurd h
noted_says call.Drain (reply.Found run said) n h = absurd h
noted_says call.Drain (reply.Missing ended) n h = absurd h
noted_says call.Drain (reply.Made said) n h = absurd h
noted_says call.Drain reply.Refused n h = absurd h
noted_says call.Drain reply.Stored n h = absurd h
noted_says call.Drain reply.Stopped n h = absurd h
noted_says call.Drain (reply.Closed run freed ended) n h = absurd h
noted_says call.Drain reply.Idle n h = absurd h
noted_says call.Drain (reply.Victim e) n h = absurd h
noted_says call.Drain (reply.AllInUse count) n h = absurd h
noted_says call.Drain (reply.Swept es) n h = absurd h
noted_says call.Drain (reply.Drained es) n h = (ap asked h, sym (ap (λ m. said_by m (map told (ended_in (reply.Drained es)))) h))

pub one_note : (s : Fixed) (past : List (Entry BucketNote)) (role : ℕ) (a : BucketCall) (r q : BucketReply) (n m : BucketNote)
    → BothAnswer (BucketMay s) (BucketAnswers s) past role a r n q m → n ≡ m
one_note s past role a r q n m both =
    fixing.one_note s past role n m (sound s past (legal_is s past both.0)) both.2.rule both.3.rule ((noted_says a r n both.2.noted).0 ∙ sym (noted_says a q m both.3.noted).0)

-- two rising lists with the same numbers are one

first_there : (x : ℕ) (xs : List ℕ) → has (x ∷ xs) x ≡ true
first_there x xs = ap (λ (v : Bool). v || has xs x) (eq-eqb x x refl)

first_not : (x y : ℕ) (ys : List ℕ) → x < y → Below y ys → AreRising ys → has (y ∷ ys) x ≡ false
first_not x y [] less below rises = ap (λ (v : Bool). v || false) (ne_eqb y x (λ e. lt_irrefl x (subst (λ (v : ℕ). x < v) e less)))
first_not x y (z ∷ zs) less below rises =
    ap (λ (v : Bool). v || has (z ∷ zs) x) (ne_eqb y x (λ e. lt_irrefl x (subst (λ (v : ℕ). x < v) e less))) ∙ first_not x z zs (lt_trans less below) rises.0 rises.1

absent : (x : ℕ) (xs : List ℕ) → Below x xs → AreRising xs → has xs x ≡ false
absent x [] below rises = refl
absent x (z ∷ zs) below rises = first_not x z zs below rises.0 rises.1

rest_same : (x y : ℕ) (xs ys : List ℕ) → x ≡ y → AreRising (x ∷ xs) → AreRising (y ∷ ys) → ((a : ℕ) → has (x ∷ xs) a ≡ has (y ∷ ys) a)
    → (a : ℕ) → has xs a ≡ has ys a
rest_same x y xs ys e r q h a = ⊎_elim
    (λ m. ap (λ (v : ℕ). has xs v) (sym m) ∙ absent x xs r.0 r.1 ∙ sym (ap (λ (v : ℕ). has ys v) (sym m ∙ e) ∙ absent y ys q.0 q.1))
    (λ n. sym (ap (λ (v : Bool). v || has xs a) (ne_eqb x a n)) ∙ h a ∙ ap (λ (v : Bool). v || has ys a) (ne_eqb y a (λ m. n (e ∙ m))))
    (cases_eq x a)

same_rising : (xs ys : List ℕ) → AreRising xs → AreRising ys → ((a : ℕ) → has xs a ≡ has ys a) → xs ≡ ys
same_rising [] [] r q h = refl
same_rising [] (y ∷ ys) r q h = absurd (false≢true (h y ∙ first_there y ys))
same_rising (x ∷ xs) [] r q h = absurd (false≢true (sym (h x) ∙ first_there x xs))
same_rising (x ∷ xs) (y ∷ ys) r q h = ⊎_elim
    (λ e. ap (λ (v : ℕ). v ∷ xs) e ∙ ap (λ (l : List ℕ). y ∷ l) (same_rising xs ys r.1 q.1 (rest_same x y xs ys e r q h)))
    (λ m. ⊎_elim
    (λ less. absurd (true≢false (sym (first_there x xs) ∙ h x ∙ first_not x y ys less q.0 q.1)))
    (λ less. absurd (true≢false (sym (first_there y ys) ∙ sym (h y) ∙ first_not y x xs less r.0 r.1)))
    m)
    (cases_order x y)

-- of a run that left its row tells why

abbrev first_in : List ℕ → ℕ
first_in [] = 0
first_in (x ∷ xs) = x

abbrev rest_in : List ℕ → List ℕ
rest_in [] = []
rest_in (x ∷ xs) = xs

module _ (s : Fixed) (past : List (Entry BucketNote)) (n : BucketNote) where
  abbrev IsGone : EndedFlow → Type 0
  IsGone e = IsEnded s (after s e.run n (row s e.run past)) e

  told_one : (e f : EndedFlow) → e.run ≡ f.run → IsGone e → IsGone f → told e ≡ told f
  told_one e f run p q =
      let offs : off e.reason e.emergency ≡ off f.reason f.emergency
      = ap off_of (sym p.place ∙ ap (λ (a : ℕ). (after s a n (row s a past)).place) run ∙ q.place) in
      let reason : e.reason ≡ f.reason = ap (λ (o : Off). o.reason) offs in
      let emergency : e.emergency ≡ f.emergency = ap (λ (o : Off). o.emergency) offs in
      λ i. record { run = run i; reason = reason i; emergency = emergency i }

  told_all : (es fs : List EndedFlow) → runs es ≡ runs fs → All IsGone es → All IsGone fs → map told es ≡ map told fs
  told_all [] [] e a b = refl
  told_all [] (f ∷ fs) e a b = absurd (true≢false (ap is_none_of e))
  told_all (x ∷ es) [] e a b = absurd (false≢true (ap is_none_of e))
  told_all (x ∷ es) (f ∷ fs) e a b =
      ap (λ (t : Told). t ∷ map told es) (told_one x f (ap first_in e) (All-head IsGone x es a) (All-head IsGone f fs b))
      ∙ ap (λ (l : List Told). told f ∷ l) (told_all es fs (ap rest_in e) (All-tail IsGone x es a) (All-tail IsGone f fs b))

  told_same : (es fs : List EndedFlow) → IsLetGo s past n es → IsLetGo s past n fs → map told es ≡ map told fs
  told_same es fs p q = told_all es fs (same_rising (runs es) (runs fs) p.rise q.rise (λ a. p.whole a ∙ sym (q.whole a))) p.each q.each

pub one_reply : (s : Fixed) (past : List (Entry BucketNote)) (role : ℕ) (a : BucketCall) (r q : BucketReply) (n m : BucketNote)
    → BothAnswer (BucketMay s) (BucketAnswers s) past role a r n q m → BucketAlike r q
one_reply s past role a r q n m both =
    let same = one_note s past role a r q n m both in
    (noted_says a r n both.2.noted).1
    ∙ ap (λ (x : BucketNote). said_by x (map told (ended_in r))) same
    ∙ ap (λ (l : List Told). said_by m l) (told_same s past m (ended_in r) (ended_in q) (subst (λ (x : BucketNote). IsLetGo s past x (ended_in r)) same both.2.gone) both.3.gone)
    ∙ sym (noted_says a q m both.3.noted).1
