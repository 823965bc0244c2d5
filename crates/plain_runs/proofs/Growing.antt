-- Every capture has plain runs: those of the packets so far, and one packet more.
use Rattle.std.proofs.Common.{◌≡◌, ℕ, suc, ◌+◌, ◌<◌, ◌≤◌, length, arith, append_assoc, List, [], ◌∷◌, ◌++◌, Bool, true, false, ◌&&◌, ◌||◌, cond, refl, sym, ap, ◌∙◌, subst, append-nil, inl, inr}
use Rattle.std.specs.Prelude.{if◌then◌else◌, is_none}
use Rattle.std.specs.List.{list_any}
use Rattle.std.proofs.lemmas.List.Elements.{filter-append}
use Rattle.suri_base.specs.Capture.{AreSeenOf, Captured, IsCapture, packets_in}
use Rattle.suri_base.specs.Frames.{AreNumbered}
use Rattle.suri_base.specs.Keys.{key_list, same_key}
use Rattle.suri_base.specs.declared.frame.Frame.{Frame}
use Rattle.suri_base.specs.declared.seen.Seen.{Seen}
use Rattle.suri_base.specs.declared.seen.Seen.TheVariants.{Bears, Counted}
use Rattle.suri_base.specs.declared.facts.Facts.{Facts}
use Rattle.suri_base.specs.declared.key.Key.{Key}
use Rattle.flow_sum.specs.Run.{Run, alone, first_of, with_one_more}
use Rattle.plain_runs.specs.Plain.{ArePlain, FirstsRise, PlainRun, cut_from, cut_run, cuts, has_key, is_cut, open_run, plain_runs_of, with_key}
use Rattle.suri_base.proofs.SameKeys.{and-true, bool_is, same_key-is, same_key-refl}

-- the plain run goes on
abbrev is_open : PlainRun → Bool
is_open p = is_none p.ended

-- it goes on, and has the packet's key
abbrev takes : Facts → PlainRun → Bool
takes f p = is_open p && has_key f.key p

-- one packet more: of the plain runs that could take it the last one does, or is ended by it;
-- where none could, the packet begins a plain run
abbrev advanced : (PlainRun → Bool) → List PlainRun → Facts → List PlainRun
advanced could [] f = open_run (alone f) ∷ []
advanced could (p ∷ ps) f =
    if list_any could ps then p ∷ advanced could ps f
    else (if could p
    then (if is_cut p.run f
    then cut_run p.run f ∷ (ps ++ open_run (alone f) ∷ [])
    else open_run (with_one_more f p.run) ∷ ps)
    else p ∷ advanced could ps f)

-- a plain run that can't take the packet is left alone
advanced-skips : (could : PlainRun → Bool) (p : PlainRun) (ps : List PlainRun) (f : Facts) → could p ≡ false → advanced could (p ∷ ps) f ≡ p ∷ advanced could ps f
advanced-skips could p ps f alone = elim (bool_is (list_any could ps)) [
  | inl later ↦ rw later refl
  | inr last ↦ rw (last, alone) refl
]

-- one packet more of a key
cut_from-push : (r : Run) (fs : List Facts) (f : Facts) → cut_from r (fs ++ f ∷ []) ≡ advanced is_open (cut_from r fs) f
cut_from-push r [] f = refl
cut_from-push r (g ∷ fs) f = by (is_cut r g) (cut_from-push (alone g) fs f) (cut_from-push (with_one_more g r) fs f)
  where
    by : (b : Bool) → cut_from (alone g) (fs ++ f ∷ []) ≡ advanced is_open (cut_from (alone g) fs) f
        → cut_from (with_one_more g r) (fs ++ f ∷ []) ≡ advanced is_open (cut_from (with_one_more g r) fs) f
        → (if b then cut_run r g ∷ cut_from (alone g) (fs ++ f ∷ []) else cut_from (with_one_more g r) (fs ++ f ∷ []))
        ≡ advanced is_open (if b then cut_run r g ∷ cut_from (alone g) fs else cut_from (with_one_more g r) fs) f
    by true next same = ap (λ ps. cut_run r g ∷ ps) next ∙ sym (advanced-skips is_open (cut_run r g) (cut_from (alone g) fs) f refl)
    by false next same = same

cuts-push : (fs : List Facts) (f : Facts) → cuts (fs ++ f ∷ []) ≡ advanced is_open (cuts fs) f
cuts-push [] f = refl
cuts-push (g ∷ fs) f = cut_from-push (alone g) fs f

-- a plain run with the packet's key hasn't another
other_key : (k : Key) (p : PlainRun) (f : Facts) → same_key f.key k ≡ false → takes f p ≡ true → has_key k p ≡ false
other_key k p f other own =
    let same = same_key-is (first_of p.run).key f.key (and-true (is_open p) (has_key f.key p) own).1 in
    ap (λ (x : Key). same_key x k) same ∙ other

-- the plain runs of another key are left alone
with_key-other : (k : Key) (ps : List PlainRun) (f : Facts) → same_key f.key k ≡ false → with_key k (advanced (takes f) ps f) ≡ with_key k ps
with_key-other k [] f other = rw other refl
with_key-other k (p ∷ ps) f other =
    let more = ap (λ (l : List PlainRun). cond (has_key k p) (p ∷ l) l) (with_key-other k ps f other) in
    elim (bool_is (list_any (takes f) ps)) [
      | inl later ↦ rw later more
      | inr last ↦ elim (bool_is (takes f p)) [
        | inl own ↦
            let none = other_key k p f other own in
            elim (bool_is (is_cut p.run f)) [
              | inl cut ↦ rw (last, own, cut, none, filter-append (has_key k) ps (open_run (alone f) ∷ []), other) (append-nil (with_key k ps))
              | inr on ↦ rw (last, own, on, none) refl
            ]
        | inr not_own ↦ rw (last, not_own) more
      ]
    ]

-- a plain run of the packet's key can take it where it is open
own_takes : (p : PlainRun) (f : Facts) → has_key f.key p ≡ true → takes f p ≡ is_open p
own_takes p f own = by (is_open p)
  where
    by : (b : Bool) → (b && has_key f.key p) ≡ b
    by true = own
    by false = refl

other_takes : (p : PlainRun) (f : Facts) → has_key f.key p ≡ false → takes f p ≡ false
other_takes p f other = by (is_open p)
  where
    by : (b : Bool) → (b && has_key f.key p) ≡ false
    by true = other
    by false = refl

-- some plain run can take the packet exactly where some plain run of its key is open
any_takes : (ps : List PlainRun) (f : Facts) → list_any (takes f) ps ≡ list_any is_open (with_key f.key ps)
any_takes [] f = refl
any_takes (p ∷ ps) f = elim (bool_is (has_key f.key p)) [
  | inl own ↦ ap (λ b. b || list_any (takes f) ps) (own_takes p f own) ∙ rw own (ap (λ b. is_open p || b) (any_takes ps f))
  | inr other ↦ ap (λ b. b || list_any (takes f) ps) (other_takes p f other) ∙ rw other (any_takes ps f)
]

-- the plain runs of the packet's key go on as if they were alone
with_key-own : (ps : List PlainRun) (f : Facts) → with_key f.key (advanced (takes f) ps f) ≡ advanced is_open (with_key f.key ps) f
with_key-own [] f = rw (same_key-refl f.key) refl
with_key-own (p ∷ ps) f =
    let more = ap (λ (l : List PlainRun). p ∷ l) (with_key-own ps f) in
    elim (bool_is (has_key f.key p)) [
      | inr other ↦ ap (with_key f.key) (advanced-skips (takes f) p ps f (other_takes p f other)) ∙ rw other (with_key-own ps f)
      | inl own ↦ elim (bool_is (list_any (takes f) ps)) [
        | inl later ↦
            let any : list_any is_open (with_key f.key ps) ≡ true = sym (any_takes ps f) ∙ later in
            rw (later, own, any) more
        | inr last ↦
            let none : list_any is_open (with_key f.key ps) ≡ false = sym (any_takes ps f) ∙ last in
            elim (bool_is (is_open p)) [
              | inr ended ↦
                  ap (with_key f.key) (advanced-skips (takes f) p ps f (own_takes p f own ∙ ended))
                  ∙ rw own (more ∙ sym (advanced-skips is_open p (with_key f.key ps) f ended))
              | inl goes ↦
                  let can : takes f p ≡ true = own_takes p f own ∙ goes in
                  elim (bool_is (is_cut p.run f)) [
                    | inl cut ↦ rw (last, can, cut, own, filter-append (has_key f.key) ps (open_run (alone f) ∷ []), same_key-refl f.key, none, goes, cut) refl
                    | inr on ↦ rw (last, can, on, own, none, goes, on) refl
                  ]
            ]
      ]
    ]

-- the numbers of the first packets stay below a number
abbrev FirstsBelow : ℕ → List PlainRun → Type 0
FirstsBelow top [] = Unit {0}
FirstsBelow top (p ∷ ps) = ((first_of p.run).no < top) × FirstsBelow top ps

rise-push : (above : ℕ) (ps : List PlainRun) (f : Facts) → FirstsRise above ps → FirstsBelow f.no ps → above < f.no → FirstsRise above (ps ++ open_run (alone f) ∷ [])
rise-push above [] f rise below low = (low, tt)
rise-push above (p ∷ ps) f rise below low = (rise.0, rise-push (first_of p.run).no ps f rise.1 below.1 below.0)

rise-advanced : (could : PlainRun → Bool) (above : ℕ) (ps : List PlainRun) (f : Facts) → FirstsRise above ps → FirstsBelow f.no ps → above < f.no → FirstsRise above (advanced could ps f)
rise-advanced could above [] f rise below low = (low, tt)
rise-advanced could above (p ∷ ps) f rise below low =
    let more = rise-advanced could (first_of p.run).no ps f rise.1 below.1 below.0 in
    elim (bool_is (list_any could ps)) [
      | inl later ↦ rw later (rise.0, more)
      | inr last ↦ elim (bool_is (could p)) [
        | inl own ↦ elim (bool_is (is_cut p.run f)) [
          | inl cut ↦ rw (last, own, cut) (rise.0, rise-push (first_of p.run).no ps f rise.1 below.1 below.0)
          | inr on ↦ rw (last, own, on) rise
        ]
        | inr other ↦ rw (last, other) (rise.0, more)
      ]
    ]

below-push : (top : ℕ) (ps : List PlainRun) (f : Facts) → FirstsBelow top ps → top ≤ f.no → FirstsBelow (suc f.no) (ps ++ open_run (alone f) ∷ [])
below-push top [] f below low = (omega arith, tt)
below-push top (p ∷ ps) f below low = (omega (arith, below.0), below-push top ps f below.1 low)

below-larger : (top up : ℕ) (ps : List PlainRun) → FirstsBelow top ps → top ≤ up → FirstsBelow up ps
below-larger top up [] below low = tt
below-larger top up (p ∷ ps) below low = (omega (arith, below.0), below-larger top up ps below.1 low)

below-advanced : (could : PlainRun → Bool) (top : ℕ) (ps : List PlainRun) (f : Facts) → FirstsBelow top ps → top ≤ f.no → FirstsBelow (suc f.no) (advanced could ps f)
below-advanced could top [] f below low = (omega arith, tt)
below-advanced could top (p ∷ ps) f below low =
    let here : (first_of p.run).no < suc f.no = omega (arith, below.0) in
    let more = below-advanced could top ps f below.1 low in
    elim (bool_is (list_any could ps)) [
      | inl later ↦ rw later (here, more)
      | inr last ↦ elim (bool_is (could p)) [
        | inl own ↦ elim (bool_is (is_cut p.run f)) [
          | inl cut ↦ rw (last, own, cut) (here, below-push top ps f below.1 low)
          | inr on ↦ rw (last, own, on) (here, below-larger top (suc f.no) ps below.1 (omega arith))
        ]
        | inr other ↦ rw (last, other) (here, more)
      ]
    ]

-- the key list with one packet more
key_list-own : (k : Key) (facts : List Facts) (f : Facts) → same_key f.key k ≡ true → key_list k (facts ++ f ∷ []) ≡ key_list k facts ++ f ∷ []
key_list-own k facts f own = filter-append (λ (g : Facts). same_key g.key k) facts (f ∷ []) ∙ ap (λ b. key_list k facts ++ cond b (f ∷ []) []) own

key_list-other : (k : Key) (facts : List Facts) (f : Facts) → same_key f.key k ≡ false → key_list k (facts ++ f ∷ []) ≡ key_list k facts
key_list-other k facts f other =
    filter-append (λ (g : Facts). same_key g.key k) facts (f ∷ []) ∙ ap (λ b. key_list k facts ++ cond b (f ∷ []) []) other ∙ append-nil (key_list k facts)

-- the plain runs of the packets, and one packet more
ArePlain-push : (facts : List Facts) (ps : List PlainRun) (f : Facts) → ArePlain facts ps → FirstsBelow f.no ps → 0 < f.no → ArePlain (facts ++ f ∷ []) (advanced (takes f) ps f)
ArePlain-push facts ps f plain below some = record {
  each = λ k. elim (bool_is (same_key f.key k)) [
    | inl own ↦
        subst (λ (l : Key). with_key l (advanced (takes f) ps f) ≡ plain_runs_of l (facts ++ f ∷ [])) (same_key-is f.key k own)
        (with_key-own ps f ∙ ap (λ l. advanced is_open l f) (plain.each f.key) ∙ sym (cuts-push (key_list f.key facts) f)
        ∙ sym (ap cuts (key_list-own f.key facts f (same_key-refl f.key))))
    | inr other ↦ with_key-other k ps f other ∙ plain.each k ∙ sym (ap cuts (key_list-other k facts f other))
  ];
  in_order = rise-advanced (takes f) 0 ps f plain.in_order below some;
}

-- the numbers of packets rise, from above this one
abbrev NumbersRise : ℕ → List Facts → Type 0
NumbersRise above [] = Unit {0}
NumbersRise above (f ∷ fs) = (above < f.no) × NumbersRise f.no fs

-- so packets whose numbers rise have plain runs
grow : (top : ℕ) (past todo : List Facts) (ps : List PlainRun) → ArePlain past ps → FirstsBelow (suc top) ps → NumbersRise top todo → (plain_runs : List PlainRun) × ArePlain (past ++ todo) plain_runs
grow top past [] ps plain below rise = (ps, subst (λ (l : List Facts). ArePlain l ps) (sym (append-nil past)) plain)
grow top past (f ∷ todo) ps plain below rise =
    let more = ArePlain-push past ps f plain (below-larger (suc top) f.no ps below (omega (arith, rise.0))) (omega (arith, rise.0)) in
    let all = grow f.no (past ++ f ∷ []) todo (advanced (takes f) ps f) more (below-advanced (takes f) (suc top) ps f below (omega (arith, rise.0))) rise.1 in
    subst (λ (l : List Facts). (plain_runs : List PlainRun) × ArePlain l plain_runs) (append_assoc past (f ∷ []) todo) all

rise-lower : (low above : ℕ) (fs : List Facts) → low ≤ above → NumbersRise above fs → NumbersRise low fs
rise-lower low above [] less rise = tt
rise-lower low above (f ∷ fs) less rise = (omega (arith, rise.0), rise.1)

-- the numbers of a capture's packets rise
packets_rise : (size before : ℕ) (frames : List Frame) (clocks : List ℕ) (seen : List Seen) → AreNumbered size before frames → AreSeenOf size frames clocks seen → NumbersRise before (packets_in seen)
packets_rise size before [] [] [] numbered are = tt
packets_rise size before [] [] (s ∷ seen) numbered are = absurd are
packets_rise size before [] (c ∷ clocks) seen numbered are = absurd are
packets_rise size before (g ∷ frames) [] seen numbered are = absurd are
packets_rise size before (g ∷ frames) (c ∷ clocks) [] numbered are = absurd are
packets_rise size before (g ∷ frames) (c ∷ clocks) (Counted d ∷ seen) numbered are =
    rise-lower before (before + 1) (packets_in seen) (omega arith) (packets_rise size (before + 1) frames clocks seen numbered.3 are.1)
packets_rise size before (g ∷ frames) (c ∷ clocks) (Bears f ∷ seen) numbered are =
    let number : before + 1 ≡ f.no = sym (are.0.number ∙ numbered.0) in
    (omega (arith, number), subst (λ n. NumbersRise n (packets_in seen)) number (packets_rise size (before + 1) frames clocks seen numbered.3 are.1))

pub capture_has : (c : Captured) → IsCapture c → (plain_runs : List PlainRun) × ArePlain (packets_in c.seen) plain_runs
capture_has c is =
    grow 0 [] (packets_in c.seen) [] (record { each = λ k. refl; in_order = tt }) tt
    (packets_rise (length c.bytes) 0 c.frames c.clocks c.seen is.numbered is.seen)
