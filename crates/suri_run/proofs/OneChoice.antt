-- Words choose one thing.
use Rattle.std.proofs.Common.{◌≡◌, ◌≤◌, ℕ, Bool, true, false, ◌&&◌, if◌then◌else◌, List, Option, Some, None, IsSome, codes, refl, sym, ap, ap₂, ◌∙◌, arith, inl, inr, subst}
use Rattle.std.specs.Prelude.{min, unwrap_or}
use Rattle.std.specs.Option.{SomeIff}
use Rattle.clap.specs.Words.{Row, Text}
use Rattle.suri_base.specs.declared.layout.Layout.{Layout}
use Rattle.suri_opts.specs.Words.{AreSizes, Chooses, IsChoice, IsNumberIn, IsWideChoice, found, generates, given, is_given, within_bounds}
use Rattle.suri_opts.specs.declared.types.Options.{Options}
use Rattle.suri_run.specs.Run.{AreRefused, AreTaken, AskForOne, Exceed, MayGenerate}

some_once : (P : Type 0) (v : ℕ) (n m : Option ℕ) → SomeIff n P v → SomeIff m P v → n ≡ m
some_once P v None None a b = refl
some_once P v None (Some y) a b = absurd (a b.0)
some_once P v (Some x) None a b = absurd (b a.0)
some_once P v (Some x) (Some y) a b = ap (λ k. Some k) (a.1 ∙ sym b.1)

number_once : (bits : ℕ) (text : Option Text) (n m : Option ℕ) → IsNumberIn bits text n → IsNumberIn bits text m → n ≡ m
number_once bits None n m a b = a ∙ sym b
number_once bits (Some t) n m a b = some_once _ _ n m a b

choice_once : (least most default : ℕ) (text : Option Text) (n m : ℕ) → IsChoice least most default text n → IsChoice least most default text m → n ≡ m
choice_once least most default text n m a b = a.2 ∙ (ap (within_bounds least most default) (number_once 32 text a.0 b.0 a.1 b.1) ∙ sym b.2)

wide_once : (text : Option Text) (n m : ℕ) → IsWideChoice text n → IsWideChoice text m → n ≡ m
wide_once text n m a b = a.2 ∙ (ap (λ (o : Option ℕ). unwrap_or o 0) (number_once 64 text a.0 b.0 a.1 b.1) ∙ sym b.2)

-- the seed and the number of frames that are given, whatever stands where they aren't
abbrev pub IsGenerated : List Row → Option (ℕ × ℕ) → Type 0
IsGenerated rows g = (seed frames : ℕ) × IsWideChoice (given (codes "generate") rows) seed × IsChoice 1 1000000 1 (given (codes "frames") rows) frames × (g ≡ generates rows seed frames)

generated_once : (rows : List Row) (g h : Option (ℕ × ℕ)) → IsGenerated rows g → IsGenerated rows h → g ≡ h
generated_once rows g h a b =
    a.4 ∙ ap₂ (generates rows) (wide_once _ a.0 b.0 a.2 b.2) (choice_once _ _ _ _ a.1 b.1 a.3 b.3) ∙ sym b.4

layout_once : (rows : List Row) (l m : Layout) → AreSizes rows l → AreSizes rows m → l ≡ m
layout_once rows l m a b = λ i. record {
  workers = choice_once _ _ _ _ l.workers m.workers a.workers b.workers i;
  batch = choice_once _ _ _ _ l.batch m.batch a.batch b.batch i;
  round = choice_once _ _ _ _ l.round m.round a.round b.round i;
  rows = choice_once _ _ _ _ l.rows m.rows a.table_rows b.table_rows i;
  memcap = choice_once _ _ _ _ l.memcap m.memcap a.memcap b.memcap i;
  segments = choice_once _ _ _ _ l.segments m.segments a.segments b.segments i;
  recovery = choice_once _ _ _ _ l.recovery m.recovery a.recovery b.recovery i;
  depth = choice_once _ _ _ _ l.depth m.depth a.depth b.depth i;
}

-- words choose one thing
pub chosen_once : (words : List Text) (o p : Options) → Chooses words o → Chooses words p → o ≡ p
chosen_once words o p a b =
    let layout = layout_once (found words) o.layout p.layout a.choices.sizes b.choices.sizes in
    let before : o.prealloc ≡ p.prealloc =
    a.choices.prealloc.2
    ∙ (ap (λ n. min n o.layout.memcap) (choice_once _ _ _ _ a.choices.prealloc.0 b.choices.prealloc.0 a.choices.prealloc.1 b.choices.prealloc.1)
    ∙ (ap (λ (l : Layout). min b.choices.prealloc.0 l.memcap) layout ∙ sym b.choices.prealloc.2)) in
    λ i. record {
      layout = layout i;
      prealloc = before i;
      seed = choice_once _ _ _ _ o.seed p.seed a.choices.seed b.choices.seed i;
      netflow = (a.choices.netflow ∙ sym b.choices.netflow) i;
      audit = (a.choices.audit ∙ sym b.choices.audit) i;
      generate = generated_once (found words) o.generate p.generate a.choices.generate b.choices.generate i;
    }

-- words that are taken don't choose too many rows
pub not_more : (words : List Text) (table_rows memcap : ℕ) → AreTaken words → Exceed words table_rows memcap → ⊥
not_more words table_rows memcap taken more =
    let same = chosen_once words taken.0 more.options taken.1.chosen more.chosen in
    absurd (omega (arith, taken.1.fit, ap (λ (o : Options). o.layout.rows) same, ap (λ (o : Options). o.layout.memcap) same, more.rows_are, more.memcap_is, more.more))

pub not_taken : (words : List Text) → AreTaken words → AreRefused words → ⊥
not_taken words taken (inl fault) = fault taken.1.chosen.taken
not_taken words taken (inr (inl more)) = not_more words more.0 more.1 taken more.2
not_taken words taken (inr (inr apart)) = apart.apart taken.1.together

-- where words ask for a generated capture, what they choose has one
pub asked : (words : List Text) (o : Options) → Chooses words o → AskForOne words → IsSome o.generate
asked words o chosen asks = subst (λ (p : Options). IsSome p.generate) (chosen_once words asks.0 o asks.1 chosen) asks.2

-- and a capture of so many frames can be generated
may : (asks : Bool) (seed frames : ℕ) → 1 ≤ frames → frames ≤ 1000000 → MayGenerate (if asks then Some (seed, frames) else None)
may true seed frames least most = (least, most)
may false seed frames least most = tt

some_frames : (o : Option ℕ) → (1 ≤ within_bounds 1 1000000 1 o) × (within_bounds 1 1000000 1 o ≤ 1000000)
some_frames None = (omega arith, omega arith)
some_frames (Some n) = (omega arith, omega arith)

pub may_generate : (words : List Text) (o : Options) → Chooses words o → MayGenerate o.generate
may_generate words o chosen =
    let g = chosen.choices.generate in
    let few = subst (λ n. (1 ≤ n) × (n ≤ 1000000)) (sym g.3.2) (some_frames g.3.0) in
    subst MayGenerate (sym g.4) (may (is_given (codes "generate") (found words) && is_given (codes "frames") (found words)) g.0 g.1 few.0 few.1)
