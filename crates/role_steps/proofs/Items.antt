-- What follows of objects in a queue: the runs that they stand for, their lines, and that they can be finished.
use Rattle.std.proofs.Common.{◌≡◌, ℕ, zero, suc, ◌<◌, ◌^◌, Bool, List, [], ◌∷◌, length, map, ◌++◌, refl, sym, ◌∙◌, ap, subst, arith}
use Rattle.std.specs.Prelude.{All}
use Rattle.bucket_laws.specs.Leaving.{Gone, runs}
use Rattle.bucket_rules.specs.Rule.{IsLegal}
use Rattle.bucket_rules.specs.declared.fixed.Fixed.{Fixed}
use Rattle.bucket_flow.specs.Held.{StandsIf}
use Rattle.flow_object.specs.Ending.{EndedFlow}
use Rattle.flow_object.specs.Line.{line_of}
use Rattle.flow_object.specs.Object.{Stops, nodes_in, stops_in}
use Rattle.flow_object.specs.Standing.{StandsFor}
use Rattle.flow_object.specs.declared.outcome.FlowLine.{FlowLine}
use Rattle.lock_rows.specs.Rows.{Pairs}
use Rattle.role_steps.specs.Finishing.{IsLineFor, MayFinish}
use Rattle.role_steps.specs.Items.{IsItem, IsLine, Items, LinesOf, gone_of, row_then}
use Rattle.role_steps.proofs.Holding.{few_nodes}
use Rattle.run_rules.specs.Histories.{Histories, bucket_at}
use Rattle.run_rules.specs.Setup.{Setup, fixed_at}
use Rattle.suri_base.specs.Capture.{IsCapture}
use Rattle.suri_base.specs.declared.entry.BucketNote.{BucketNote}
use Rattle.suri_base.specs.declared.entry.Entry.{Entry}

cons_same : (x y : Gone) (xs ys : List Gone) → x ≡ y → xs ≡ ys → x ∷ xs ≡ y ∷ ys
cons_same x y xs ys p q = cc

gone_same : (x : Gone) (run nodes : ℕ) → run ≡ x.run → nodes ≡ x.nodes → x ≡ record { run = run; nodes = nodes }
gone_same x run nodes p q =
    subst (λ (r : ℕ). x ≡ record { run = r; nodes = nodes }) (sym p) (subst (λ (n : ℕ). x ≡ record { run = x.run; nodes = n }) (sym q) refl)

-- the object holds the nodes that the run took along
pub item_holds : (w : Setup) (t : Histories) (g : Gone) (e : EndedFlow) → IsItem w t g e → nodes_in e.obj ≡ g.nodes
item_holds w t g e i = i.ended.object.nodes ∙ sym i.nodes

-- so what waits is known by the objects alone
pub items_gone : (w : Setup) (t : Histories) (queue : List Gone) (es : List EndedFlow) → Items w t queue es → queue ≡ map gone_of es
items_gone w t [] [] h = refl
items_gone w t (g ∷ gs) (e ∷ es) h =
    cons_same g (gone_of e) gs (map gone_of es) (gone_same g e.run (nodes_in e.obj) h.0.run (item_holds w t g e h.0)) (items_gone w t gs es h.1)
items_gone w t [] (e ∷ es) h = absurd h
items_gone w t (g ∷ gs) [] h = absurd h

item_line : (w : Setup) (t : Histories) (g : Gone) (e : EndedFlow) (l : FlowLine) → IsItem w t g e → IsLineFor e l → IsLine w t g.run l
item_line w t g e l i line =
    let then = row_then w t g.run i.leaving in
    let o = i.ended.object in
    let stands : StandsFor e.obj w.capture.bytes o.run then.judged
    = subst (λ (b : Bool). StandsIf b e.obj w.capture.bytes o.run then.judged) i.ended.settled o.stands in
    record {
      leaving = i.leaving;
      reason = e.reason;
      emergency = e.emergency;
      place = i.ended.place;
      packets = o.run;
      members = o.members;
      is = line w.capture.bytes o.run then.judged stands
          ∙ (ap (λ (d : ℕ). line_of d (stops_in e.obj) w.capture.bytes o.run then.judged e.reason e.emergency) o.depth
          ∙ ap (λ (x : Stops). line_of w.layout.depth x w.capture.bytes o.run then.judged e.reason e.emergency) o.stops);
    }

-- the lines that are made of the objects are those of the runs
pub items_lines : (w : Setup) (t : Histories) (queue : List Gone) (es : List EndedFlow) (ls : List FlowLine) → Items w t queue es
    → Pairs (λ e l. IsLineFor e l) es ls → LinesOf w t (runs queue) ls
items_lines w t [] [] [] h p = tt
items_lines w t (g ∷ gs) (e ∷ es) (l ∷ ls) h p = (item_line w t g e l h.0 p.0, items_lines w t gs es ls h.1 p.1)
items_lines w t [] [] (l ∷ ls) h p = absurd p
items_lines w t (g ∷ gs) (e ∷ es) [] h p = absurd p
items_lines w t [] (e ∷ es) ls h p = absurd h
items_lines w t (g ∷ gs) [] ls h p = absurd h

-- in legal histories each can be finished

behind : (s : Fixed) (since past history : List (Entry BucketNote)) → history ≡ since ++ past → IsLegal s history → IsLegal s past
behind s [] past history e l = subst (λ (h : List (Entry BucketNote)). IsLegal s h) e l
behind s (x ∷ since) past history e l = behind s since past (since ++ past) refl (tail (subst (λ (h : List (Entry BucketNote)). IsLegal s h) e l))
  where
    tail : IsLegal s (x ∷ since ++ past) → IsLegal s (since ++ past)
    tail k = k.1

module _ (w : Setup) (t : Histories) (is : IsCapture w.capture) (legal : (b : ℕ) → b < length t.buckets → IsLegal (fixed_at w b) (bucket_at b t.buckets)) where
  item_finish : (g : Gone) (e : EndedFlow) → IsItem w t g e → MayFinish w e
  item_finish g e i =
      let h = i.leaving in
      let l = behind (fixed_at w h.bucket) h.stands.0 (h.at ∷ h.past) (bucket_at h.bucket t.buckets) h.stands.1 (legal h.bucket h.real) in
      (subst (λ (n : ℕ). n < 2 ^ 32) (sym i.ended.object.nodes) (few_nodes (fixed_at w h.bucket) (h.at ∷ h.past) g.run is l), i.ended.object.depth)

  pub items_finish : (queue : List Gone) (es : List EndedFlow) → Items w t queue es → All (λ (e : EndedFlow). MayFinish w e) es
  items_finish [] [] h k d low = absurd (omega (arith, low))
  items_finish (g ∷ gs) (e ∷ es) h zero d low = item_finish g e h.0
  items_finish (g ∷ gs) (e ∷ es) h (suc k) d low = items_finish gs es h.1 k d (omega (arith, low))
  items_finish [] (e ∷ es) h k d low = absurd h
  items_finish (g ∷ gs) [] h k d low = absurd h
