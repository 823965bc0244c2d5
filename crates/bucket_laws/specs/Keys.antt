-- The packets of a key that a bucket answered, and how they are cut into runs. Lists have the newest packet first.
use Rattle.std.specs.Prelude.{◌≡◌, ℕ, ◌<◌, ◌≤◌, ◌==◌, Bool, true, false, if◌then◌else◌, List, [], ◌∷◌, ◌++◌, All, Option, Some, None}
use Rattle.std.specs.List.{list_any}
use Rattle.suri_base.specs.Keys.{same_key}
use Rattle.suri_base.specs.declared.entry.BucketNote.{BucketNote}
use Rattle.suri_base.specs.declared.entry.BucketNote.TheVariants.{Found, Made, Refused}
use Rattle.suri_base.specs.declared.entry.Entry.{Entry}
use Rattle.suri_base.specs.declared.facts.Facts.{Facts}
use Rattle.suri_base.specs.declared.key.Key.{Key}
use Rattle.bucket_rules.specs.Own.{is_refused}
use Rattle.bucket_rules.specs.Packets.{bearing, has_key}
use Rattle.bucket_rules.specs.Row.{has, made, row}
use Rattle.bucket_rules.specs.declared.fixed.Fixed.{Fixed}
use Rattle.bucket_laws.specs.Places.{In}

-- the frame that an entry answers: its packet joined a run, began one or was refused. 0 for none
abbrev pub answers : BucketNote → ℕ
answers (Found f emergency seen run said) = f
answers (Made f said) = f
answers (Refused f) = f
answers _ = 0

-- what a packet makes of something, where there is one and it bears the key
abbrev pub if_bears : {A : Type 0} → Key → Option Facts → (Facts → A) → A → A
if_bears k None change x = x
if_bears k (Some t) change x = if same_key t.key k then change t else x

-- the packets of a key that a history answered
abbrev pub answered : Fixed → Key → List (Entry BucketNote) → List Facts
answered s k [] = []
answered s k (e ∷ past) = if_bears k (bearing s.capture (answers e.note)) (λ t. t ∷ answered s k past) (answered s k past)

-- each packet comes after those behind it, in file order
abbrev pub Falls : List Facts → Type 0
Falls [] = Unit {0}
Falls (t ∷ ts) = All (λ (u : Facts). u.no < t.no) ts × Falls ts

-- a run with its members, or with the number 0 a refused packet
pub record Piece : Type 0 where
  pub run : ℕ
  pub packets : List Facts

abbrev pub piece : ℕ → List Facts → Piece
piece run packets = record { run = run; packets = packets }

-- the packet joins the newest piece
abbrev pub joined : Facts → List Piece → List Piece
joined t [] = []
joined t (p ∷ ps) = piece p.run (t ∷ p.packets) ∷ ps

-- what an entry makes of the pieces of a key
abbrev pub piece_on : Fixed → Key → BucketNote → List Piece → List Piece
piece_on s k (Found f emergency seen run said) ps = if_bears k (bearing s.capture f) (λ t. joined t ps) ps
piece_on s k (Made f said) ps = if_bears k (bearing s.capture f) (λ t. piece f (t ∷ []) ∷ ps) ps
piece_on s k (Refused f) ps = if_bears k (bearing s.capture f) (λ t. piece 0 (t ∷ []) ∷ ps) ps
piece_on s k _ ps = ps

-- the answered packets of a key, in pieces
abbrev pub pieces : Fixed → Key → List (Entry BucketNote) → List Piece
pieces s k [] = []
pieces s k (e ∷ past) = piece_on s k e.note (pieces s k past)

-- all packets of some pieces
abbrev pub all_packets : List Piece → List Facts
all_packets [] = []
all_packets (p ∷ ps) = p.packets ++ all_packets ps

-- those of a run's piece
abbrev pub packets_of : ℕ → List Piece → List Facts
packets_of a [] = []
packets_of a (p ∷ ps) = if p.run == a then p.packets else packets_of a ps

-- there is a piece of the run
abbrev pub has_piece : ℕ → List Piece → Bool
has_piece a ps = list_any (λ (p : Piece). p.run == a) ps

-- the members of a run that has the key; none of another
abbrev pub if_key : Key → List Facts → List Facts
if_key k ms = if has_key ms k then ms else []

-- this is a packet that was refused, alone
pub record IsRefusedAlone (s : Fixed) (past : List (Entry BucketNote)) (packets : List Facts) : Type 0 where
  pub frame : ℕ
  pub packet : Facts
  pub alone : packets ≡ packet ∷ []
  pub bears : bearing s.capture frame ≡ Some packet
  pub refused : is_refused frame past ≡ true

-- each run has one piece, and a piece of no run is a refused packet
abbrev pub AreApart : Fixed → List (Entry BucketNote) → List Piece → Type 0
AreApart s past [] = Unit {0}
AreApart s past (p ∷ ps) = (1 ≤ p.run → has_piece p.run ps ≡ false) × (p.run ≡ 0 → IsRefusedAlone s past p.packets) × AreApart s past ps

-- the packets of a key are cut, in their order, into the members of its runs and refused packets
pub record IsCut (s : Fixed) (k : Key) (past : List (Entry BucketNote)) (packets : List Facts) (ps : List Piece) : Type 0 where
  pub whole : all_packets ps ≡ packets
  -- a run that has the key has just its members in its piece, and another run has no packet there
  pub runs : (a : ℕ) → 1 ≤ a → packets_of a ps ≡ if_key k (row s a past).members
  -- no piece is of a run that didn't begin
  pub begun : (a : ℕ) → 1 ≤ a → has_piece a ps ≡ true → has (made past) a ≡ true
  -- each packet of the key that was refused is a piece
  pub refused : (f : ℕ) (t : Facts) → bearing s.capture f ≡ Some t → same_key t.key k ≡ true → is_refused f past ≡ true → In (piece 0 (t ∷ [])) ps
  pub apart : AreApart s past ps

-- the packet is a member of a run, or was refused
pub data IsPlaced (s : Fixed) (past : List (Entry BucketNote)) (t : Facts) : Type 0 where
  in_run : (a : ℕ) → In t (row s a past).members → IsPlaced s past t
  is_refused_at : (f : ℕ) → bearing s.capture f ≡ Some t → is_refused f past ≡ true → IsPlaced s past t
