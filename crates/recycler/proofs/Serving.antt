-- What waits is finished, one flow after another.
use Rattle.std.proofs.Common.{◌≡◌, ℕ, zero, suc, ◌+◌, ◌*◌, ◌<◌, ◌≤◌, ◌^◌, List, [], ◌∷◌, ◌++◌, length, map, reverse, Some, refl, sym, ◌∙◌, ap, subst, arith, append_assoc, append-nil, length-append}
use Rattle.std.specs.Prelude.{All}
use Rattle.std.proofs.lemmas.List.{reverse-append}
use Rattle.bucket_laws.specs.Leaving.{Gone, runs}
use Rattle.flow_bucket.specs.Fixing.{legal_is}
use Rattle.flow_object.specs.Ending.{EndedFlow}
use Rattle.flow_object.specs.Object.{nodes_in}
use Rattle.flow_object.specs.declared.outcome.FlowLine.{FlowLine}
use Rattle.lock_rows.specs.Rows.{Pairs}
use Rattle.lock_rows.proofs.Placed.{pairs_more}
use Rattle.recycler.specs.Recycling.{MayRecycle, Recycled}
use Rattle.recycler.specs.Serving.{Served, Serves, Serving}
use Rattle.recycler.proofs.Queues.{end_one, queue_longer, serve_one}
use Rattle.role_steps.specs.Finishing.{IsFinished, IsLineFor, MayFinish, given, put_back}
use Rattle.role_steps.specs.Items.{gone_of}
use Rattle.role_steps.specs.Roles.{Acted, Fits, setup_of}
use Rattle.role_steps.specs.declared.roles.Passes.{Passes}
use Rattle.role_steps.specs.declared.roles.Recycler.{Recycler}
use Rattle.role_steps.specs.declared.roles.Shared.{Shared}
use Rattle.role_steps.proofs.Items.{items_finish, items_gone, items_lines}
use Rattle.role_steps.proofs.Stepping.{acted_none, acted_through}
use Rattle.run_rules.specs.Acts.{Act, on_pool}
use Rattle.run_rules.specs.Ending.{ending_after}
use Rattle.run_rules.specs.Histories.{bucket_at}
use Rattle.run_rules.specs.Serving.{finished, queue_after}
use Rattle.run_rules.specs.Setup.{Setup, fixed_at}
use Rattle.suri_base.specs.declared.entry.PoolNote.TheVariants.{Put}

-- lists

map_end : {A B : Type 0} (f : A → B) (xs : List A) (x : A) → map f (xs ++ x ∷ []) ≡ map f xs ++ f x ∷ []
map_end f [] x = refl
map_end f (y ∷ xs) x = ap (λ l. f y ∷ l) (map_end f xs x)

pub nothing_left : {A : Type 0} (xs : List A) → length xs ≡ 0 → xs ≡ []
nothing_left [] h = refl
nothing_left (x ∷ xs) h = absurd (omega (arith, h))

behind_all : (P : EndedFlow → Type 0) (e : EndedFlow) (es : List EndedFlow) → All P (e ∷ es) → All P es
behind_all P e es h k d low = h (suc k) d (omega (arith, low))

-- nothing is served by nothing, and one flow more by its acts

pub serves_none : (w : Setup) → Serves w [] []
serves_none w = record { queue = λ came rest before h. h; ending = λ start k rest before h. h; finished = refl; few = omega arith }

given_few : (n : ℕ) → length (given n) ≤ 1
given_few zero = omega arith
given_few (suc n) = omega arith

pub serves_more : (w : Setup) (es : List EndedFlow) (e : EndedFlow) (now : List Act) (at : ℕ) → Serves w es now
    → Serves w (es ++ e ∷ []) (put_back (gone_of e) at ++ now)
serves_more w es e now at s = record {
  queue = λ came rest before h.
      let start : queue_after came before ≡ Some (map gone_of es ++ gone_of e ∷ rest) = h ∙ ap Some (ends rest) in
      subst (λ (l : List Act). queue_after came l ≡ Some rest) (sym (append_assoc (put_back (gone_of e) at) now before))
      (serve_one e.run (nodes_in e.obj) at came rest (now ++ before) (s.queue came (gone_of e ∷ rest) before start));
  ending = λ start k rest before h.
      let begin : ending_after w start before ≡ Some (record { queue = map gone_of es ++ gone_of e ∷ rest; drained = k })
      = h ∙ ap (λ (q : List Gone). Some (record { queue = q; drained = k })) (ends rest) in
      subst (λ (l : List Act). ending_after w start l ≡ Some (record { queue = rest; drained = k })) (sym (append_assoc (put_back (gone_of e) at) now before))
      (end_one w e.run (nodes_in e.obj) at start k rest (now ++ before) (s.ending start k (gone_of e ∷ rest) before begin));
  finished = ap reverse (told (nodes_in e.obj))
      ∙ (reverse-append (e.run ∷ []) (finished now) ∙ (ap (λ (l : List ℕ). l ++ e.run ∷ []) s.finished ∙ sym (map_end (λ (x : EndedFlow). x.run) es e)));
  few = omega (arith, s.few, given_few (nodes_in e.obj), length-append (given (nodes_in e.obj)) now, length-append es (e ∷ []));
}
  where
    ends : (rest : List Gone) → map gone_of (es ++ e ∷ []) ++ rest ≡ map gone_of es ++ gone_of e ∷ rest
    ends rest = ap (λ (l : List Gone). l ++ rest) (map_end gone_of es e) ∙ append_assoc (map gone_of es) (gone_of e ∷ []) rest

    told : (n : ℕ) → finished (on_pool (Put e.run) at ∷ given n ++ now) ≡ e.run ∷ finished now
    told zero = refl
    told (suc n) = refl

-- the loop

pub serving_start : (s : Shared) (r : Recycler) → Fits s r.passes → All (λ (e : EndedFlow). MayFinish (setup_of s) e) r.waiting.items → Serving s r r
serving_start s r fits objects = record {
  done = [];
  now = [];
  waited = refl;
  acted = acted_none s r.passes fits;
  serves = serves_none (setup_of s);
  lines = [];
  grew = sym (append-nil r.lines.items);
  told = tt;
  objects = objects;
}

pub serving_next : (s : Shared) (old mid new : Recycler) (e : EndedFlow) → Serving s old mid → mid.waiting.items ≡ e ∷ new.waiting.items
    → IsFinished s mid.passes new.passes e → (l : FlowLine) × (new.lines.items ≡ mid.lines.items ++ l ∷ []) × IsLineFor e l → Serving s old new
serving_next s old mid new e sv popped fin line = record {
  done = sv.done ++ e ∷ [];
  now = put_back (gone_of e) fin.0 ++ sv.now;
  waited = sv.waited ∙ (ap (λ (l : List EndedFlow). sv.done ++ l) popped ∙ sym (append_assoc sv.done (e ∷ []) new.waiting.items));
  acted = acted_through s old.passes mid.passes new.passes sv.now (put_back (gone_of e) fin.0) sv.acted fin.1;
  serves = serves_more (setup_of s) sv.done e sv.now fin.0 sv.serves;
  lines = sv.lines ++ line.0 ∷ [];
  grew = line.1 ∙ (ap (λ (l : List FlowLine). l ++ line.0 ∷ []) sv.grew ∙ append_assoc old.lines.items sv.lines (line.0 ∷ []));
  told = pairs_more (λ x l. IsLineFor x l) sv.done sv.lines e line.0 sv.told line.2;
  objects = behind_all (λ (x : EndedFlow). MayFinish (setup_of s) x) e new.waiting.items
      (subst (λ (l : List EndedFlow). All (λ (x : EndedFlow). MayFinish (setup_of s) x) l) popped sv.objects);
}

pub served_all : (s : Shared) (old mid new : Recycler) → Serving s old mid → mid.waiting.items ≡ [] → new.passes ≡ mid.passes → new.lines ≡ mid.lines → new.waiting.items ≡ []
    → Served s old new
served_all s old mid new sv empty passes lines none =
    let whole : old.waiting.items ≡ sv.done = sv.waited ∙ (ap (λ (l : List EndedFlow). sv.done ++ l) empty ∙ append-nil sv.done) in record {
      now = sv.now;
      acted = subst (λ (p : Passes). Acted s old.passes p sv.now) (sym passes) sv.acted;
      serves = subst (λ (l : List EndedFlow). Serves (setup_of s) l sv.now) (sym whole) sv.serves;
      lines = sv.lines;
      grew = ap (λ l. l.items) lines ∙ sv.grew;
      told = subst (λ (l : List EndedFlow). Pairs (λ e x. IsLineFor e x) l sv.lines) (sym whole) sv.told;
      waiting = none;
    }

-- how many steps are left
pub steps_left : (s : Shared) (old mid : Recycler) (e : EndedFlow) (es : List EndedFlow) → Serving s old mid → mid.waiting.items ≡ e ∷ es
    → old.passes.step + 2 * length old.waiting.items < 2 ^ 63 → mid.passes.step + 2 < 2 ^ 64
steps_left s old mid e es sv popped low =
    omega (arith, sv.acted.step, sv.serves.few, ap length sv.waited, length-append sv.done mid.waiting.items, ap length popped, low)

-- the round

pub may_serve : (s : Shared) (r : Recycler) → MayRecycle s r → All (λ (e : EndedFlow). MayFinish (setup_of s) e) r.waiting.items
may_serve s r m =
    items_finish (setup_of s) m.choice m.shared.capture
    (λ b low. legal_is (fixed_at (setup_of s) b) (bucket_at b m.choice.buckets) (m.waits.choice.buckets b low)) m.queue r.waiting.items m.waits.items

pub runs_of : (es : List EndedFlow) → runs (map gone_of es) ≡ map (λ (e : EndedFlow). e.run) es
runs_of [] = refl
runs_of (e ∷ es) = ap (λ (l : List ℕ). e.run ∷ l) (runs_of es)

pub recycled : (s : Shared) (old new : Recycler) → MayRecycle s old → Served s old new → Recycled s old new
recycled s old new m sv = record {
  fits = sv.acted.fits;
  number = sv.acted.number;
  grown = sv.acted.grown;
  now = sv.now;
  step = sv.acted.step;
  few = omega (arith, sv.acted.step, sv.serves.few, m.steps);
  over = λ t before came queue q.
      let is : queue ≡ map gone_of old.waiting.items = items_gone (setup_of s) t queue old.waiting.items q.items in
      let first : queue_after (came ++ queue) before ≡ Some queue = queue_longer came queue [] before q.served in record {
        own = sv.acted.own before q.step q.own;
        emptied = sv.serves.queue (came ++ queue) [] before (first ∙ ap Some (is ∙ sym (append-nil (map gone_of old.waiting.items))));
        finished = sv.serves.finished ∙ (sym (runs_of old.waiting.items) ∙ ap runs (sym is));
        lines = sv.lines;
        grew = sv.grew;
        told = items_lines (setup_of s) t queue old.waiting.items sv.lines q.items sv.told;
      };
}
