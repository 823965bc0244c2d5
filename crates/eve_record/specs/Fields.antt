-- The fields of a JSON object, of which some may be absent, and the tokens by which they are written.
use Rattle.std.specs.Prelude.{◌≡◌, ℕ, Bool, true, if◌then◌else◌, List, [], ◌∷◌, ◌++◌, Some, None}
use Rattle.std.specs.declared.option.Option.{Option}
use Rattle.json.specs.Token as token
use Rattle.json.specs.Token.{Token}
use Rattle.json.specs.Written.{Written}
use Rattle.serde_json.specs.Written.{number_text}
use Rattle.serde_json.specs.Data.{Data, null, boolean, number, string, array, object, unsigned, Items, no_items, item, Members, no_members, member}

-- a key, and the value where there is one
abbrev pub Field : Type 0
Field = List ℕ × Option Data

-- a number
abbrev pub count : ℕ → Data
count n = number (unsigned n)

-- true, or no value
abbrev pub where_true : Bool → Option Data
where_true b = if b then Some (boolean true) else None

-- the items of an array of numbers
abbrev pub items_of : List ℕ → Items
items_of [] = no_items
items_of (n ∷ ns) = item (count n) (items_of ns)

-- a member more in front, where there is a value
abbrev pub member_if : List ℕ → Option Data → Members → Members
member_if key None ms = ms
member_if key (Some d) ms = member key d ms

-- the members of the fields that have a value
abbrev pub members_of : List Field → Members
members_of [] = no_members
members_of (f ∷ fs) = member_if f.0 f.1 (members_of fs)

-- the object of some fields
abbrev pub object_of : List Field → Data
object_of fields = object (members_of fields)

-- a token more was written, behind what stood before
pub record Adds (old new : Written) (t : Token) : Type 0 where
  pub before : new.before ≡ old.before
  pub tokens : new.tokens ≡ old.tokens ++ t ∷ []

-- a value was written, token by token
abbrev mutual
  pub WritesData : Data → Written → Written → Type 0
  WritesData null old new = Adds old new token.null
  WritesData (boolean b) old new = Adds old new (token.boolean b)
  WritesData (number n) old new = Adds old new (token.number (number_text n))
  WritesData (string s) old new = Adds old new (token.string s)
  WritesData (array ds) old new = (first : Written) × Adds old first token.begin_array × WritesItems ds first new
  WritesData (object ms) old new = (first : Written) × Adds old first token.begin_object × WritesMembers ms first new

  -- with the end
  pub WritesItems : Items → Written → Written → Type 0
  WritesItems no_items old new = Adds old new token.end_array
  WritesItems (item d ds) old new = (mid : Written) × WritesData d old mid × WritesItems ds mid new

  pub WritesMembers : Members → Written → Written → Type 0
  WritesMembers no_members old new = Adds old new token.end_object
  WritesMembers (member k d ms) old new = (named mid : Written) × Adds old named (token.key k) × WritesData d named mid × WritesMembers ms mid new

-- a key and its value, where there is one; else nothing
abbrev pub WritesIf : List ℕ → Option Data → Written → Written → Type 0
WritesIf key None old new = new ≡ old
WritesIf key (Some d) old new = (named : Written) × Adds old named (token.key key) × WritesData d named new

-- one field after another, without the end
abbrev pub WritesFields : List Field → Written → Written → Type 0
WritesFields [] old new = new ≡ old
WritesFields (f ∷ fs) old new = (mid : Written) × WritesIf f.0 f.1 old mid × WritesFields fs mid new
