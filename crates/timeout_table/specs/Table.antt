-- The timeouts: one table, this project's own.
use Rattle.std.specs.Prelude.{ℕ, ◌*◌, ◌^◌, ◌&&◌, Bool, true, false, not, if◌then◌else◌, List, [], ◌∷◌, filter}
use Rattle.suri_base.specs.Protocols.{is_tcp}
use Rattle.tcp_session.specs.declared.classes.Class.{Class}
use Rattle.tcp_session.specs.declared.classes.Class.TheVariants.{New, Established, Closed}

-- the timeouts of TCP, or of all other protocols, in emergency, or in normal times: in seconds, by class
pub record Row : Type 0 where
  pub tcp : Bool
  pub emergency : Bool
  pub new : ℕ
  pub established : ℕ
  pub closed : ℕ

abbrev pub row : Bool → Bool → ℕ → ℕ → ℕ → Row
row tcp emergency new established closed = record { tcp = tcp; emergency = emergency; new = new; established = established; closed = closed }

-- is it TCP, is it an emergency; new, established, closed
abbrev pub table : List Row
table =
    row true false 60 3600 120 ∷
    row true true 10 300 20 ∷
    row false false 30 300 300 ∷
    row false true 10 100 100 ∷
    []

abbrev pub same : Bool → Bool → Bool
same a b = if a then b else not b

-- the rows that speak of TCP, or of all other protocols, in emergency, or in normal times
unfoldable pub rows_for : Bool → Bool → List Row
rows_for tcp emergency = filter (λ r. same r.tcp tcp && same r.emergency emergency) table

abbrev pub in_class : Class → Row → ℕ
in_class New r = r.new
in_class Established r = r.established
in_class Closed r = r.closed

-- the seconds of the one row that speaks of it
abbrev pub seconds_in : Class → List Row → ℕ
seconds_in class [] = 0
seconds_in class (r ∷ others) = in_class class r

abbrev pub seconds_of : Bool → Bool → Class → ℕ
seconds_of tcp emergency class = seconds_in class (rows_for tcp emergency)

-- in nanoseconds
abbrev pub timeout_of : ℕ → Class → Bool → ℕ
timeout_of proto class emergency = seconds_of (is_tcp proto) emergency class * 10 ^ 9
