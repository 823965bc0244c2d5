-- Values that are read one after another, each with its number.
use Rattle.std.proofs.Common.{◌≡◌, ◌++◌, ◌∷◌, [], List, ℕ, ◌+◌, ◌-◌, ◌<◌, suc, add-zero, ap, append_assoc, append-nil, arith, length, length-append, map, refl, replicate, sym, subst, All, ◌∙◌}
use Rattle.std.proofs.lemmas.List.{length-replicate, length_push}
use Rattle.std.proofs.lemmas.List.Elements.{All-append, All-cons, All-head, All-nil, All-push, All-replicate, All-tail}
use Rattle.trail_text.specs.declared.fault.TrailFault.{TrailFault}
use Rattle.trail_text.specs.declared.fault.TrailFault.TheVariants as fault
use Rattle.trail_text.specs.Reading.{Count, Faulty, Reading, RowTells, Stops, Tells, Took, TookRow, row}
use Rattle.trail_text.proofs.Stopping.{stops_after}

abbrev Lines : Type 0
Lines = List (List ℕ)

pub map_push : {X Y : Type 0} (f : X → Y) (xs : List X) (x : X) → map f (xs ++ x ∷ []) ≡ map f xs ++ f x ∷ []
map_push f [] x = refl
map_push f (y ∷ ys) x = ap (λ z. f y ∷ z) (map_push f ys x)

module _ {V : Type 0} (write : ℕ → V → Lines) (Fit : V → Type 0) where
  row_append : (number place : ℕ) (vs ws : List V) → place ≡ number + length vs → row write number (vs ++ ws) ≡ row write number vs ++ row write place ws
  row_append number place [] ws at = let e : place ≡ number = omega (arith, at) in ap (λ n. row write n ws) (sym e)
  row_append number place (v ∷ vs) ws at =
      ap (λ z. write number v ++ z) (row_append (suc number) place vs ws (omega (arith, at))) ∙ sym (append_assoc (write number v) (row write (suc number) vs) (row write place ws))

  tells_push : (number place : ℕ) (vs : List V) (v : V) → place ≡ number + length vs → RowTells write Fit number vs → Tells (write place) Fit v
      → RowTells write Fit number (vs ++ v ∷ [])
  tells_push number place [] v at all one = let e : place ≡ number = omega (arith, at) in (subst (λ n. Tells (write n) Fit v) e one, tt)
  tells_push number place (u ∷ vs) v at all one = (all.0, tells_push (suc number) place vs v (omega (arith, at)) all.1 one)

  -- as many values are told by their lines
  pub row_tells : (number : ℕ) (vs ws : List V) → RowTells write Fit number vs → length ws ≡ length vs → All Fit ws → (p q : Lines)
      → row write number ws ++ p ≡ row write number vs ++ q → (ws ≡ vs) × (p ≡ q)
  row_tells number [] [] all same fit p q is = (refl, is)
  row_tells number [] (w ∷ ws) all same fit p q is = absurd (omega (arith, same))
  row_tells number (v ∷ vs) [] all same fit p q is = absurd (omega (arith, same))
  row_tells number (v ∷ vs) (w ∷ ws) all same fit p q is =
      let n : ℕ = suc number in
      let first = all.0 w (All-head Fit w ws fit) (row write n ws ++ p) (row write n vs ++ q)
      (sym (append_assoc (write number w) (row write n ws) p) ∙ is ∙ append_assoc (write number v) (row write n vs) q) in
      let rest = row_tells n vs ws all.1 (omega (arith, same)) (All-tail Fit w ws fit) p q first.1 in
      ((λ i. first.0 i ∷ rest.0 i), rest.1)

  -- of more values the next one follows
  row_split : (number place : ℕ) (vs ws : List V) → place ≡ number + length vs → RowTells write Fit number vs → length vs < length ws → All Fit ws → (p q : Lines)
      → row write number ws ++ p ≡ row write number vs ++ q → (v : V) × Fit v × ((more : Lines) × (write place v ++ more ≡ q))
  row_split number place [] [] at all less fit p q is = absurd (omega (arith, less))
  row_split number place [] (w ∷ ws) at all less fit p q is =
      let e : place ≡ number = omega (arith, at) in
      (w, All-head Fit w ws fit, (row write (suc number) ws ++ p, ap (λ n. write n w ++ (row write (suc number) ws ++ p)) e ∙ sym (append_assoc (write number w) (row write (suc number) ws) p) ∙ is))
  row_split number place (v ∷ vs) [] at all less fit p q is = absurd (omega (arith, less))
  row_split number place (v ∷ vs) (w ∷ ws) at all less fit p q is =
      let n : ℕ = suc number in
      let first = all.0 w (All-head Fit w ws fit) (row write n ws ++ p) (row write n vs ++ q)
      (sym (append_assoc (write number w) (row write n ws) p) ∙ is ∙ append_assoc (write number v) (row write n vs) q) in
      row_split n place vs ws (omega (arith, at)) all.1 (omega (arith, less)) (All-tail Fit w ws fit) p q first.1

  -- none was read yet
  pub took_none : (old : Reading) → TookRow write Fit old old 0 []
  took_none old = record {
    fit = All-nil Fit;
    number = refl;
    lines = refl;
    tail = refl;
    no = sym (add-zero old.no);
    tells = tt;
  }

  -- one more was read
  pub took_more : (old mid new : Reading) (count : ℕ) (vs : List V) (v : V) → TookRow write Fit old mid count vs → Took (write count) Fit mid new v
      → TookRow write Fit old new (count + 1) (vs ++ v ∷ [])
  took_more old mid new count vs v h one =
      let at : count ≡ 0 + length vs = omega (arith, h.number) in
      let e : row write 0 (vs ++ v ∷ []) ≡ row write 0 vs ++ write count v = row_append 0 count vs (v ∷ []) at ∙ ap (λ z. row write 0 vs ++ z) (append-nil (write count v)) in
      record {
        fit = All-push Fit vs v h.fit one.fit;
        number = let l = length_push vs v in omega (arith, l, h.number);
        lines = h.lines ∙ ap (λ z. row write 0 vs ++ z) one.lines ∙ sym (append_assoc (row write 0 vs) (write count v) new.lines) ∙ ap (λ z. z ++ new.lines) (sym e);
        tail = one.tail ∙ h.tail;
        no =
            let l = ap (λ z. length z) e in
            let m = length-append (row write 0 vs) (write count v) in
            let a = h.no in
            let b = one.no in
            omega (arith, l, m, a, b);
        tells = tells_push 0 count vs v at h.tells one.tells;
      }

  -- all were read
  pub took_all : (old new : Reading) (count all : ℕ) (vs : List V) → count ≡ all → TookRow write Fit old new count vs → Took (row write 0) (Count Fit all) old new vs
  took_all old new count all vs same h = record {
    fit = (h.number ∙ same, h.fit);
    lines = h.lines;
    tail = h.tail;
    no = h.no;
    tells = λ ws fit p q is. row_tells 0 vs ws h.tells (fit.0 ∙ sym same ∙ sym h.number) fit.1 p q is;
  }

  -- the next one stops
  pub row_stops : (some : V) → Fit some → (old mid : Reading) (count all at : ℕ) (vs : List V) → count < all → TookRow write Fit old mid count vs → Stops (write count) Fit mid at
      → Stops (row write 0) (Count Fit all) old at
  row_stops some fits old mid count all at vs less h s =
      let place : count ≡ 0 + length vs = omega (arith, h.number) in
      let more : List V = replicate (all - suc count) some in
      let l : length more ≡ all - suc count = length-replicate (all - suc count) some in
      stops_after (write count) Fit (row write 0) (Count Fit all) (row write 0 vs) old mid at h.lines h.no s (
      λ v fit.
      let m : length (vs ++ v ∷ more) ≡ length vs + suc (length more) = length-append vs (v ∷ more) in (
        vs ++ v ∷ more,
        (omega (arith, l, m, place, less), All-append Fit vs (v ∷ more) h.fit (All-cons Fit v more fit (All-replicate Fit (all - suc count) some fits))),
        (row write (suc count) more, row_append 0 count vs (v ∷ more) place),
      )
      ) (λ ws fit p q is. row_split 0 count vs ws place h.tells (omega (arith, fit.0, h.number, less)) fit.1 p q is)

  pub row_faulty : (some : V) → Fit some → (old mid : Reading) (count all : ℕ) (f : TrailFault) (vs : List V) → count < all → TookRow write Fit old mid count vs
      → Faulty (write count) Fit mid f → Faulty (row write 0) (Count Fit all) old f
  row_faulty some fits old mid count all (fault.Line at) vs less h s = row_stops some fits old mid count all at vs less h s
  row_faulty some fits old mid count all fault.NoMemory vs less h s = tt
