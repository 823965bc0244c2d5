-- The command line: one simple command, what it chooses, and when its words are refused.
use Rattle.std.specs.Prelude.{◌≡◌, ℕ, List, [], codes, Some, None, Bool, false, ◌<◌, ◌^◌, min, max, ◌&&◌, if◌then◌else◌, is_some, unwrap_or}
use Rattle.std.specs.Option.{SomeIff}
use Rattle.std.specs.Str.{bytes_eq}
use Rattle.std.specs.Str.Parse.{IsNumeral, digits_value, without_leading_plus}
use Rattle.std.specs.declared.option.Option.{Option}
use Rattle.clap.specs.Words.{App, Kinds, Row, Rule, Text, fault_of, first_of, matches_of, new_app, new_rule, one_of, with_rule}
use Rattle.clap.specs.declared.builder.action.ArgAction.TheVariants.{Set, SetTrue}
use Rattle.clap.specs.declared.builder.value_parser.ValueParser.TheVariants as parser
use Rattle.suri_base.specs.declared.layout.Layout.{Layout}
use Rattle.suri_opts.specs.declared.types.Options.{Options}

-- an option with a number in these bounds
abbrev pub number_rule : Text → ℕ → ℕ → Rule
number_rule name least most = record (new_rule name) { long = Some name; action = Some Set; parser = Some (parser.Unsigned least most) }

-- a flag
abbrev pub flag_rule : Text → Rule
flag_rule name = record (new_rule name) { long = Some name; action = Some SetTrue }

-- the command, after each of its options
abbrev pub app_0 : App
app_0 = new_app (codes "suri_run")

abbrev pub app_1 : App
app_1 = with_rule app_0 (number_rule (codes "workers") 1 64)

abbrev pub app_2 : App
app_2 = with_rule app_1 (number_rule (codes "batch") 1 256)

abbrev pub app_3 : App
app_3 = with_rule app_2 (number_rule (codes "round") 1 65536)

abbrev pub app_4 : App
app_4 = with_rule app_3 (number_rule (codes "rows") 1 4096)

abbrev pub app_5 : App
app_5 = with_rule app_4 (number_rule (codes "memcap") 1 1048576)

abbrev pub app_6 : App
app_6 = with_rule app_5 (number_rule (codes "prealloc") 0 1048576)

abbrev pub app_7 : App
app_7 = with_rule app_6 (number_rule (codes "segments") 0 1048576)

abbrev pub app_8 : App
app_8 = with_rule app_7 (number_rule (codes "depth") 0 1073741824)

abbrev pub app_9 : App
app_9 = with_rule app_8 (number_rule (codes "recovery") 1 100)

abbrev pub app_10 : App
app_10 = with_rule app_9 (number_rule (codes "seed") 0 65535)

abbrev pub app_11 : App
app_11 = with_rule app_10 (flag_rule (codes "netflow"))

abbrev pub app_12 : App
app_12 = with_rule app_11 (number_rule (codes "generate") 0 18446744073709551615)

abbrev pub app_13 : App
app_13 = with_rule app_12 (number_rule (codes "frames") 1 1000000)

abbrev pub suri_app : App
suri_app = with_rule app_13 (flag_rule (codes "audit"))

-- the kinds of fault that the command finds in the words; none where it takes them
abbrev pub faults : List Text → Kinds
faults words = fault_of suri_app words

-- what it finds of its options
abbrev pub found : List Text → List Row
found words = matches_of suri_app words

-- the text of an option, where it is given
abbrev pub given : Text → List Row → Option Text
given id rows = one_of id rows

-- the number that a text spells in decimal digits, behind a plus sign or none, where it is below 2 to the power of so many bits
abbrev pub IsNumberIn : ℕ → Option Text → Option ℕ → Type 0
IsNumberIn bits None n = n ≡ None
IsNumberIn bits (Some t) n =
    let digits = without_leading_plus t in
    SomeIff n (IsNumeral 10 digits × (digits_value 10 digits < 2 ^ bits)) (digits_value 10 digits)

abbrev pub IsNumberOf : Option Text → Option ℕ → Type 0
IsNumberOf text n = IsNumberIn 32 text n

-- the number in its bounds, or the default
abbrev pub within_bounds : ℕ → ℕ → ℕ → Option ℕ → ℕ
within_bounds least most default None = default
within_bounds least most default (Some n) = max least (min most n)

-- an option of these bounds with this default, where it is given this text, is this number
abbrev pub IsChoice : ℕ → ℕ → ℕ → Option Text → ℕ → Type 0
IsChoice least most default text n = (o : Option ℕ) × IsNumberOf text o × (n ≡ within_bounds least most default o)

-- an option with any number of 64 bits, where it is given this text, is this number, and else 0
abbrev pub IsWideChoice : Option Text → ℕ → Type 0
IsWideChoice text n = (o : Option ℕ) × IsNumberIn 64 text o × (n ≡ unwrap_or o 0)

-- an option is given
abbrev pub is_given : Text → List Row → Bool
is_given id rows = is_some (first_of id rows)

-- the seed and the number of frames are given both, or neither is
abbrev pub ArePaired : List Row → Type 0
ArePaired rows = is_given (codes "generate") rows ≡ is_given (codes "frames") rows

-- a flag is set
abbrev pub is_set : Option Text → Bool
is_set None = false
is_set (Some t) = bytes_eq t (codes "true")

-- a seed is given and an audit is asked for: not both. What is found of a flag is there where no word gives it too, so its text tells.
abbrev pub AreApart : List Row → Type 0
AreApart rows = (is_given (codes "generate") rows && is_set (first_of (codes "audit") rows)) ≡ false

-- what is given goes together
pub record GoTogether (rows : List Row) : Type 0 where
  pub paired : ArePaired rows
  pub apart : AreApart rows

-- the seed of a generated capture and its number of frames, where both are given
abbrev pub generates : List Row → ℕ → ℕ → Option (ℕ × ℕ)
generates rows seed frames = if is_given (codes "generate") rows && is_given (codes "frames") rows then Some (seed, frames) else None

-- the sizes that are chosen by what was found: bounds and default of each
pub record AreSizes (rows : List Row) (l : Layout) : Type 0 where
  pub workers : IsChoice 1 64 4 (given (codes "workers") rows) l.workers
  pub batch : IsChoice 1 256 32 (given (codes "batch") rows) l.batch
  pub round : IsChoice 1 65536 4096 (given (codes "round") rows) l.round
  pub table_rows : IsChoice 1 4096 1024 (given (codes "rows") rows) l.rows
  pub memcap : IsChoice 1 1048576 65536 (given (codes "memcap") rows) l.memcap
  pub segments : IsChoice 0 1048576 65536 (given (codes "segments") rows) l.segments
  pub recovery : IsChoice 1 100 30 (given (codes "recovery") rows) l.recovery
  pub depth : IsChoice 0 1073741824 1048576 (given (codes "depth") rows) l.depth

-- all that is chosen. Objects made before the run are at most as many as flows may be.
pub record AreChoices (rows : List Row) (o : Options) : Type 0 where
  pub sizes : AreSizes rows o.layout
  pub prealloc : (n : ℕ) × IsChoice 0 1048576 1000 (given (codes "prealloc") rows) n × (o.prealloc ≡ min n o.layout.memcap)
  pub seed : IsChoice 0 65535 0 (given (codes "seed") rows) o.seed
  pub netflow : o.netflow ≡ is_set (first_of (codes "netflow") rows)
  pub audit : o.audit ≡ is_set (first_of (codes "audit") rows)
  pub generate : (seed frames : ℕ) × IsWideChoice (given (codes "generate") rows) seed × IsChoice 1 1000000 1 (given (codes "frames") rows) frames
      × (o.generate ≡ generates rows seed frames)

-- the command takes the words, and they choose this
pub record Chooses (words : List Text) (o : Options) : Type 0 where
  pub taken : faults words ≡ []
  pub choices : AreChoices (found words) o
