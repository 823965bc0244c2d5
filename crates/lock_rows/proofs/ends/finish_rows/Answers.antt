use Rattle.std.proofs.Common.{◌≡◌, ℕ, ◌<◌, List, [], ◌∷◌, ◌++◌, length, reverse, get_or, ap, sym, subst, ◌∙◌, arith, length-append, append_assoc}
use Rattle.std.proofs.Math.Seq.{get_or-append_seam}
use Rattle.std.proofs.lemmas.List.{reverse-append}
use Rattle.suri_base.specs.History.{entries_of}
use Rattle.hist_lock.specs.declared.table.HistLock.{HistLock}
use Rattle.hist_lock.specs.declared.pass.Pass.{Pass}
use Rattle.hist_lock.specs.Locks.{roles_of, numbers, made_of}
use Rattle.hist_lock.proofs.Seats.{as_many}
use Rattle.lock_rows.specs.Rows.{Pairs, IsGood, IsWhole, IsOwned}
use Rattle.lock_rows.proofs.Placed.{pairs_last, pairs_length}
use Rattle.lock_rows.proofs.Lasts.{rows_next, empty_by}
use Rattle.lock_rows.proofs.ends.finish_rows.Goals as goal

pub last_passes-requires : goal.last_passes-requires
last_passes-requires g c = record {
  ends = λ k d below.
      let P = Pass g.row.M.Denot g.row.M-Call.Denot g.row.M-Reply.Denot g.row.M-Note.Denot g.row.M-Fixed.Denot g.M.Machine in
      let L = HistLock g.row.M.Denot g.row.M-Call.Denot g.row.M-Reply.Denot g.row.M-Note.Denot g.row.M-Fixed.Denot in
      let one = c.loop-lock.invariant.3 k d below in
      let Q = λ (l : L) (p : P). IsGood g.M.Machine.fixed g.M.Machine.may g.M.Machine.answers k l p in
      let is : c.loop-lock.locks.items ≡ c.pop.new.self.items ++ c.in-Some.lock ∷ [] = c.in-Some.ensures.items in
      let t = pairs_last Q c.pop.new.self.items (get_or c.loop-lock.rows k d).items c.in-Some.lock (subst (λ (z : List L). Pairs Q z (get_or c.loop-lock.rows k d).items) is one.0) in
      (t.0, t.1, t.2, t.4);
}

-- this lock has as many roles as there are rows
pub finish-entries-requires-clause-roles : goal.finish-entries-requires-clause-roles
finish-entries-requires-clause-roles g c =
    let L = HistLock g.row.M.Denot g.row.M-Call.Denot g.row.M-Reply.Denot g.row.M-Note.Denot g.row.M-Fixed.Denot in
    let t = c.loop-lock.invariant.2 in
    let front = c.pop.new.self.items in
    let lock = c.in-Some.lock in
    let is : c.loop-lock.locks.items ≡ front ++ lock ∷ [] = c.in-Some.ensures.items in
    let all : c.args.locks.items ≡ front ++ lock ∷ t.0 = t.1 ∙ (ap (λ (z : List L). z ++ t.0) is ∙ append_assoc front (lock ∷ []) t.0) in
    let below : length front < length c.args.locks.items = omega (arith, ap length all, length-append front (lock ∷ t.0)) in
    let n = c.requires.roles (length front) lock below in
    let at : get_or c.args.locks.items (length front) lock ≡ lock = ap (λ (z : List L). get_or z (length front) lock) all ∙ get_or-append_seam front lock t.0 lock in
    let roles : roles_of lock ≡ length c.args.rows.now = ap (λ (l : L). roles_of l) (sym at) ∙ n in
    c.in_ok-passes.ensures.roles ∙ ap (numbers 0) (c.loop-lock.invariant.0 ∙ sym roles)

pub loop-lock-preserved : goal.loop-lock-preserved
loop-lock-preserved g c =
    let P = Pass g.row.M.Denot g.row.M-Call.Denot g.row.M-Reply.Denot g.row.M-Note.Denot g.row.M-Fixed.Denot g.M.Machine in
    let L = HistLock g.row.M.Denot g.row.M-Call.Denot g.row.M-Reply.Denot g.row.M-Note.Denot g.row.M-Fixed.Denot in
    let inv = c.loop-lock.invariant in
    let t = inv.2 in
    let front = c.pop.new.self.items in
    let lock = c.in-Some.lock in
    let entries = c.finish-entries.result.1 in
    let ended = c.finish-entries.ensures in
    let passes = c.in_ok-passes.passes.items in
    let is : c.loop-lock.locks.items ≡ front ++ lock ∷ [] = c.in-Some.ensures.items in
    let new : c.push_reserved.new.self.items ≡ c.loop-lock.histories.items ++ entries ∷ [] = c.push_reserved.ensures.items in
    let turn : reverse c.push_reserved.new.self.items ≡ entries ∷ reverse c.loop-lock.histories.items = ap reverse new ∙ reverse-append c.loop-lock.histories.items (entries ∷ []) in
    let many : length passes ≡ length c.loop-lock.rows = as_many (λ (p : P). p.role) 0 (length c.loop-lock.rows) passes c.in_ok-passes.ensures.roles in (
      c.last_passes.ensures.count ∙ inv.0,
      omega (arith, inv.1, ap length new, length-append c.loop-lock.histories.items (entries ∷ []), ap length is, length-append front (lock ∷ []), c.push_reserved.ensures.capacity),
      (
        lock ∷ t.0,
        t.1 ∙ (ap (λ (z : List L). z ++ t.0) is ∙ append_assoc front (lock ∷ []) t.0),
        subst (λ z. Pairs (λ (m : L) h. IsWhole g.M.Machine.fixed g.M.Machine.may g.M.Machine.answers m (reverse h.items)) (lock ∷ t.0) z) (sym turn) ((ended.legal, ended.known), t.2),
      ),
      λ k d below.
          let here : k < length c.loop-lock.rows = omega (arith, c.last_passes.ensures.count, below) in
          let one = inv.3 k d here in
          rows_next (λ v. v.items) (λ k m p. IsGood g.M.Machine.fixed g.M.Machine.may g.M.Machine.answers k m p) (λ k p h. IsOwned k p (reverse h.items))
          c.args.rows.now c.loop-lock.rows c.last_passes.new.rows c.loop-lock.locks.items front lock c.loop-lock.histories.items c.push_reserved.new.self.items entries passes
          (let s = pairs_last (λ (l : L) (p : P). IsGood g.M.Machine.fixed g.M.Machine.may g.M.Machine.answers k l p) front (get_or c.loop-lock.rows k d).items lock
          (subst (λ (z : List L). Pairs (λ (l : L) (p : P). IsGood g.M.Machine.fixed g.M.Machine.may g.M.Machine.answers k l p) z (get_or c.loop-lock.rows k d).items) is one.0) in s.1)
          inv.3 c.last_passes.ensures.count is new c.in_ok-passes.ensures.taken
          (λ j p inside good. (
            ended.begins j p (omega (arith, many, inside)),
            subst (λ (r : ℕ). entries_of r (reverse entries.items) ≡ made_of (get_or passes j p)) good.role_is (ended.own j p (omega (arith, many, inside))),
          ))
          k d below,
    )

pub returns-clause-owned : goal.returns-clause-owned
returns-clause-owned g c k d below =
    let inv = c.loop-lock.invariant in
    let here : k < length c.loop-lock.rows = omega (arith, inv.0, below) in
    let P = Pass g.row.M.Denot g.row.M-Call.Denot g.row.M-Reply.Denot g.row.M-Note.Denot g.row.M-Fixed.Denot g.M.Machine in
    let L = HistLock g.row.M.Denot g.row.M-Call.Denot g.row.M-Reply.Denot g.row.M-Note.Denot g.row.M-Fixed.Denot in
    let one = inv.3 k d here in
    let short : length c.loop-lock.locks.items ≡ 0 = omega (arith, c.loop-lock.locks.ok.0, c.in_default.ensures.cases.0) in
    let even : length (get_or c.loop-lock.rows k d).items ≡ length c.loop-lock.locks.items = pairs_length (λ (l : L) (p : P). IsGood g.M.Machine.fixed g.M.Machine.may g.M.Machine.answers k l p) c.loop-lock.locks.items (get_or c.loop-lock.rows k d).items one.0 in
    let none : (get_or c.loop-lock.rows k d).items ≡ [] = empty_by (get_or c.loop-lock.rows k d).items (omega (arith, short, even)) in
    let rest : List P = one.1.0 in
    let all : (get_or c.args.rows.now k d).items ≡ rest = ◌∙◌ {A = List P} one.1.1 (ap (λ (z : List P). z ++ rest) none) in
    subst (λ (z : List P). Pairs (λ (p : P) h. IsOwned k p (reverse h.items)) z c.reverse.new.self.items) (sym {A = List P} all)
    (subst (λ z. Pairs (λ (p : P) h. IsOwned k p (reverse h.items)) rest z) (sym c.reverse.ensures.items) one.1.2)
