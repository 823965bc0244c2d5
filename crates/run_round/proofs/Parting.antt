-- The passes and the lines of roles that are taken apart, one after another.
use Rattle.std.proofs.Common.{◌≡◌, List, [], ◌∷◌, ◌++◌, refl, sym, ap, subst, ◌∙◌, append_assoc}
use Rattle.std.proofs.lemmas.List.{append-nil}
use Rattle.std.proofs.lemmas.List.Sorted.{IsPermutation-append_left, IsPermutation-trans}
use Rattle.std.specs.List.Sorted.{IsPermutation}
use Rattle.end_laws.specs.Ended.{lines_in}
use Rattle.flow_object.specs.declared.outcome.FlowLine.{FlowLine}
use Rattle.role_meets.specs.Parts.{lines_of}
use Rattle.role_meets.specs.declared.roles.Role.{Role}

pub lines_append : (xs ys : List Role) → lines_in (xs ++ ys) ≡ lines_in xs ++ lines_in ys
lines_append [] ys = refl
lines_append (x ∷ xs) ys = ap (λ (l : List FlowLine). lines_of x.part ++ l) (lines_append xs ys) ∙ sym (append_assoc (lines_of x.part) (lines_in xs) (lines_in ys))

pub lines_next : (done : List Role) (r : Role) (was now : List FlowLine) → IsPermutation (lines_in done) was → IsPermutation (was ++ lines_of r.part) now → IsPermutation (lines_in (done ++ r ∷ [])) now
lines_next done r was now same new =
    let more = lines_of r.part in
    let all : lines_in (done ++ r ∷ []) ≡ lines_in done ++ more = lines_append done (r ∷ []) ∙ ap (λ (l : List FlowLine). lines_in done ++ l) (append-nil more) in
    subst (λ (l : List FlowLine). IsPermutation l now) (sym all) (IsPermutation-trans (lines_in done ++ more) (was ++ more) now (IsPermutation-append_left more (lines_in done) was same) new)
