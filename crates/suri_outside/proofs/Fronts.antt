-- Fronts of bytes that are written in pieces: what a caller needs to join several calls.
use Rattle.std.proofs.Common.{◌≡◌, ℕ, ◌+◌, List, [], ◌++◌, length, take, None, Some, refl, sym, ap, ◌∙◌, subst, append_assoc, append-nil, arith, length-append, ◌<◌, suc, drop, get_or, flat_map, take-append-drop, drop-cons}
use Rattle.std.proofs.lemmas.Grind.{flat_map-append}
use Rattle.std.specs.declared.option.Option.{Option}
use Rattle.std.specs.Io.KnownBytes.{Appends, Keeps}
use Rattle.std.proofs.KnownBytes.{Appends-nil, Appends-trans}
use Rattle.std.proofs.Math.Seq.{take-append-add, take-length}
use Rattle.std.proofs.lemmas.List.{take-append-le}
use Rattle.suri_outside.specs.Bytes.{TakesFront, TakesAllBut}

-- nothing is a front of any bytes
pub nothing_is_front : (a b : Option (List ℕ)) (xs : List ℕ) → Keeps a b → TakesFront a b xs
nothing_is_front None b xs p = tt
nothing_is_front (Some x) None xs p = absurd p
nothing_is_front (Some x) (Some y) xs p = (0, omega arith, p ∙ sym (append-nil x))

-- all of the bytes are a front of them
pub all_is_front : (a b : Option (List ℕ)) (xs : List ℕ) → Appends a b xs → TakesFront a b xs
all_is_front None b xs p = tt
all_is_front (Some x) None xs p = absurd p
all_is_front (Some x) (Some y) xs p = (length xs, omega arith, p ∙ ap (λ l. x ++ l) (sym (take-length xs)))

-- a front of bytes is a front of more bytes
pub front_of_more : (a b : Option (List ℕ)) (xs ys : List ℕ) → TakesFront a b xs → TakesFront a b (xs ++ ys)
front_of_more None b xs ys h = tt
front_of_more (Some x) None xs ys h = absurd h
front_of_more (Some x) (Some y) xs ys h =
    (h.0, omega (arith, length-append xs ys, h.1), h.2 ∙ ap (λ l. x ++ l) (sym (take-append-le h.0 xs ys h.1)))

-- bytes that were taken, and a front of what follows them, are a front of all
pub front_after : (a b c : Option (List ℕ)) (xs ys : List ℕ) → Appends a b xs → TakesFront b c ys → TakesFront a c (xs ++ ys)
front_after None b c xs ys p q = tt
front_after (Some x) None c xs ys p q = absurd p
front_after (Some x) (Some y) None xs ys p q = absurd q
front_after (Some x) (Some y) (Some z) xs ys p q = (
  length xs + q.0,
  omega (arith, length-append xs ys, q.1),
  q.2 ∙ ap (λ l. l ++ take q.0 ys) p ∙ append_assoc x xs (take q.0 ys) ∙ ap (λ l. x ++ l) (sym (take-append-add xs ys q.0)),
)

-- before the first call nothing is sent and nothing waits
pub nothing_sent : (a : Option (List ℕ)) → TakesAllBut a a [] []
nothing_sent a = ([], Appends-nil a, refl)

-- a call that sends a text behind what waits goes on from the calls before
pub sent_more : (a b c : Option (List ℕ)) (waiting text line waiting' : List ℕ) → TakesAllBut a b waiting text → TakesAllBut b c waiting' (waiting ++ line)
    → TakesAllBut a c waiting' (text ++ line)
sent_more a b c waiting text line waiting' p q = (
  p.0 ++ q.0,
  Appends-trans a b c p.0 q.0 p.1 q.1,
  append_assoc p.0 q.0 waiting' ∙ ap (λ l. p.0 ++ l) q.2 ∙ sym (append_assoc p.0 waiting line) ∙ ap (λ l. l ++ line) p.2,
)

-- once what waits is taken, the whole text is
pub sent_all : (a b c : Option (List ℕ)) (waiting text : List ℕ) → TakesAllBut a b waiting text → Appends b c waiting → Appends a c text
sent_all a b c waiting text p q = subst (Appends a c) p.2 (Appends-trans a b c p.0 waiting p.1 q)

-- where the last call failed, a front of the whole text was taken
pub sent_front : (a b c : Option (List ℕ)) (waiting text : List ℕ) → TakesAllBut a b waiting text → TakesFront b c waiting → TakesFront a c text
sent_front a b c waiting text p q = subst (TakesFront a c) p.2 (front_after a b c p.0 waiting p.1 q)

-- where a call failed that sends a text behind what waits, a front of the text so far was taken
pub sent_front_of_more : (a b c : Option (List ℕ)) (waiting text line : List ℕ) → TakesAllBut a b waiting text → TakesFront b c (waiting ++ line)
    → TakesFront a c (text ++ line)
sent_front_of_more a b c waiting text line p q =
    subst (TakesFront a c) (sym (append_assoc p.0 waiting line) ∙ ap (λ l. l ++ line) p.2) (front_after a b c p.0 (waiting ++ line) p.1 q)

-- the text of all lines is that of the lines before one, that line's, and that of the lines behind it
pub line_by_line : {X : Type 0} (f : X → List ℕ) (lines : List X) (i : ℕ) (x : X) → i < length lines → x ≡ get_or lines i x
    → flat_map f lines ≡ (flat_map f (take i lines) ++ f x) ++ flat_map f (drop (suc i) lines)
line_by_line f lines i x lt is =
    sym (ap (flat_map f) (take-append-drop i lines)) ∙ flat_map-append f (take i lines) (drop i lines)
    ∙ ap (λ l. flat_map f (take i lines) ++ flat_map f l) (drop-cons lines i x lt)
    ∙ ap (λ y. flat_map f (take i lines) ++ (f y ++ flat_map f (drop (suc i) lines))) (sym is)
    ∙ sym (append_assoc (flat_map f (take i lines)) (f x) (flat_map f (drop (suc i) lines)))
