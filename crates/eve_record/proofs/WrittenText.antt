-- The text of a value that was written.
use Rattle.std.proofs.Common.{◌≡◌, ℕ, List, [], ◌∷◌, ◌++◌, Some, None, ap, ◌∙◌, subst, append_assoc}
use Rattle.std.specs.declared.option.Option.{Option}
use Rattle.json.specs.Print.{print}
use Rattle.json.specs.Token as token
use Rattle.json.specs.Token.{Token}
use Rattle.json.specs.Tree.{items_tokens, json_tokens, members_tokens}
use Rattle.json.specs.Written.{Written}
use Rattle.serde_json.specs.Data.{Data, null, boolean, number, string, array, object, Items, no_items, item, Members, no_members, member}
use Rattle.serde_json.specs.Written.{compact_text, items_outline, members_outline, outline}
use Rattle.serde_json.proofs.Texts.{print-outline}
use Rattle.eve_record.specs.Fields.{Adds, Field, WritesData, WritesFields, WritesIf, WritesItems, WritesMembers, member_if, members_of, object_of}

-- these tokens were written, behind what stood before
record Gives (old new : Written) (ts : List Token) : Type 0 where
  before : new.before ≡ old.before
  tokens : new.tokens ≡ old.tokens ++ ts

-- tokens behind others
behind : (old mid new : Written) (ts us : List Token) → Gives old mid ts → Gives mid new us → Gives old new (ts ++ us)
behind old mid new ts us first rest = record {
  before = rest.before ∙ first.before;
  tokens = rest.tokens ∙ ap (λ l. l ++ us) first.tokens ∙ append_assoc old.tokens ts us;
}

one : (old new : Written) (t : Token) → Adds old new t → Gives old new (t ∷ [])
one old new t h = record { before = h.before; tokens = h.tokens }

mutual
  value_given : (d : Data) (old new : Written) → WritesData d old new → Gives old new (json_tokens (outline d))
  value_given null old new h = one old new _ h
  value_given (boolean b) old new h = one old new _ h
  value_given (number n) old new h = one old new _ h
  value_given (string s) old new h = one old new _ h
  value_given (array ds) old new h = behind old h.0 new (token.begin_array ∷ []) (items_tokens (items_outline ds)) (one old h.0 _ h.1) (items_given ds h.0 new h.2)
  value_given (object ms) old new h = behind old h.0 new (token.begin_object ∷ []) (members_tokens (members_outline ms)) (one old h.0 _ h.1) (members_given ms h.0 new h.2)

  items_given : (ds : Items) (old new : Written) → WritesItems ds old new → Gives old new (items_tokens (items_outline ds))
  items_given no_items old new h = one old new _ h
  items_given (item d ds) old new h = behind old h.0 new (json_tokens (outline d)) (items_tokens (items_outline ds)) (value_given d old h.0 h.1) (items_given ds h.0 new h.2)

  members_given : (ms : Members) (old new : Written) → WritesMembers ms old new → Gives old new (members_tokens (members_outline ms))
  members_given no_members old new h = one old new _ h
  members_given (member k d ms) old new h =
      behind old h.0 new (token.key k ∷ []) (json_tokens (outline d) ++ members_tokens (members_outline ms)) (one old h.0 _ h.2)
      (behind h.0 h.1 new (json_tokens (outline d)) (members_tokens (members_outline ms)) (value_given d h.0 h.1 h.3) (members_given ms h.1 new h.4))

-- a value that alone was written has the compact text
pub written_text : (d : Data) (old new : Written) (text : List ℕ) → old.before ≡ [] → old.tokens ≡ [] → WritesData d old new → text ≡ new.before ++ print new.tokens
    → text ≡ compact_text d
written_text d old new text nothing none sent whole =
    let given = value_given d old new sent in
    let before : new.before ≡ [] = given.before ∙ nothing in
    let tokens : new.tokens ≡ json_tokens (outline d) = given.tokens ∙ ap (λ l. l ++ json_tokens (outline d)) none in
    whole ∙ ap (λ l. l ++ print new.tokens) before ∙ ap print tokens ∙ print-outline d

-- fields in front of others
pub writes_more : (front back : List Field) (a b c : Written) → WritesFields front a b → WritesFields back b c → WritesFields (front ++ back) a c
writes_more [] back a b c first rest = subst (λ l. WritesFields back l c) first rest
writes_more (f ∷ fs) back a b c first rest = (first.0, first.1, writes_more fs back first.0 b c first.2 rest)

-- fields and the end are the members
pub writes_members : (fields : List Field) (a b c : Written) → WritesFields fields a b → Adds b c token.end_object → WritesMembers (members_of fields) a c
writes_members [] a b c sent end = subst (λ l. Adds l c token.end_object) sent end
writes_members (f ∷ fs) a b c sent end = by f.1 sent.1 (writes_members fs sent.0 b c sent.2 end)
  where
    by : (o : Option Data) → WritesIf f.0 o a sent.0 → WritesMembers (members_of fs) sent.0 c → WritesMembers (member_if f.0 o (members_of fs)) a c
    by None first rest = subst (λ l. WritesMembers (members_of fs) l c) first rest
    by (Some d) first rest = (first.0, sent.0, first.1, first.2, rest)

-- an object of fields
pub writes_object : (fields : List Field) (a b c d : Written) → Adds a b token.begin_object → WritesFields fields b c → Adds c d token.end_object → WritesData (object_of fields) a d
writes_object fields a b c d begin sent end = (b, begin, writes_members fields b c d sent end)

-- an object of fields that were written in two parts
pub writes_both : (front back : List Field) (a b c d e : Written) → Adds a b token.begin_object → WritesFields front b c → WritesFields back c d → Adds d e token.end_object
    → WritesData (object_of (front ++ back)) a e
writes_both front back a b c d e begin first rest end = writes_object (front ++ back) a b d e begin (writes_more front back b c d first rest) end
