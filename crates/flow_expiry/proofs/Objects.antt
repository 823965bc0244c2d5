-- An object tells of expiry and reuse what is so of each run that it stands for.
use Rattle.std.proofs.Common.{◌≡◌, ℕ, Bool, List, ap, ◌∙◌}
use Rattle.std.specs.Prelude.{◌&&◌, ◌||◌, ◌==◌, if◌then◌else◌}
use Rattle.suri_base.specs.Protocols.{is_tcp}
use Rattle.suri_base.specs.declared.app.App.{App}
use Rattle.suri_base.specs.declared.facts.Facts.{Facts}
use Rattle.flow_object.specs.Object.{Object, class_in, class_of_run}
use Rattle.flow_object.specs.Standing.{StandsFor}
use Rattle.flow_sum.specs.Run.{Run, first_of}
use Rattle.flow_sum.specs.Sums.{sums_of}
use Rattle.flow_sum.specs.declared.sums.Sums.{Sums}
use Rattle.tcp_session.specs.Session.{class_of}
use Rattle.tcp_session.specs.declared.classes.Class.{Class}
use Rattle.tcp_session.specs.declared.classes.Class.TheVariants as class
use Rattle.tcp_session.specs.declared.state.State.{State}
use Rattle.timeout_table.specs.Expiry.{has_expired}
use Rattle.timeout_table.specs.Table.{timeout_of}
use Rattle.flow_expiry.specs.Expiry.{expired, is_closed, object_expired, object_reused, opens, reuses}

-- a class, by the sums and the state of a session
abbrev class_told : Sums → State → Class
class_told s t = if is_tcp s.key.proto then class_of t else (if (s.ts.pkts == 0) || (s.tc.pkts == 0) then class.New else class.Established)

class_same : (o : Object) (bytes : List ℕ) (r : Run) (judged : List App) → StandsFor o bytes r judged → class_in o ≡ class_of_run r
class_same o bytes r judged is = ap (λ (s : Sums). class_told s o.state) is.beside.sums ∙ ap (λ (t : State). class_told (sums_of r) t) is.beside.state

pub expired_run : (o : Object) (bytes : List ℕ) (r : Run) (judged : List App) (clock : ℕ) (emergency : Bool) → StandsFor o bytes r judged
    → object_expired o clock emergency ≡ expired r clock emergency
expired_run o bytes r judged clock emergency is =
    ap (λ (s : Sums). has_expired s.last_clock clock (timeout_of s.key.proto (class_in o) emergency)) is.beside.sums
    ∙ ap (λ (c : Class). has_expired r.newest.clock clock (timeout_of (first_of r).key.proto c emergency)) (class_same o bytes r judged is)

pub reused_run : (o : Object) (bytes : List ℕ) (r : Run) (judged : List App) (f : Facts) → StandsFor o bytes r judged → object_reused o f ≡ reuses r f
reused_run o bytes r judged f is = ap (λ (c : Class). opens f.tcp && is_closed c) (class_same o bytes r judged is)
