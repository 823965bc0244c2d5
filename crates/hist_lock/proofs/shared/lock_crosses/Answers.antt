use Rattle.std.proofs.Common.{[], ◌∷◌}
use mir.Syntax.{ty_int, w32, w64}
use Rattle.atomic_table.proofs.shared.Seat.TheSendSync as seat_sent
use Rattle.std.proofs.option.Option.TheSendSync as option_sent
use Rattle.hist_lock.proofs.view.Home.TheSendSync as home_sent
use denote.Param.{param, copied}
use denote.Param.Send.{IsSend, whole-keyless, cell_keyless}
use denote.RattleType.{RattleType}
use Rattle.atomic_table.specs.contracts.shared.Seat as seat
use Rattle.std.specs.contracts.option.Option as option
use Rattle.hist_lock.specs.contracts.view.Home as home
use Rattle.hist_lock.specs.contracts.view.View as view
use Rattle.hist_lock.proofs.shared.lock_crosses.Goals as goal

-- who shares a pass with another thread shares its seat, which may be sent, and two numbers
pub is_shared-requires-2-sync-T : goal.is_shared-requires-2-sync-T
is_shared-requires-2-sync-T g c κs within =
    let inner : RattleType = option.the_row (home.the_row (param 0 g.row.M) (copied 3 g.row.M-Note)) in
    let views : RattleType = view.the_row (copied 3 g.row.M-Note) (param 4 g.row.M-Fixed) in
    let kept : IsSend inner = option_sent.the_send (home.the_row (param 0 g.row.M) (copied 3 g.row.M-Note)) (home_sent.the_send (param 0 g.row.M) (copied 3 g.row.M-Note) c.type_bounds.send-M c.type_bounds.send-M-Note) in
    let sent : IsSend (seat.the_row inner views) = seat_sent.the_send inner views kept in record {
      shared = λ d b o ν. (
        ((λ q. whole-keyless _ _ (λ x vs. sent.owned x vs) q _ b _), ((λ x. ((tt, tt), λ q. cell_keyless q (ty_int w32 ∷ []) x b _)), ((λ x. ((tt, tt), λ q. cell_keyless q (ty_int w64 ∷ []) x b _)), tt))),
        λ q. tt,
      );
    }
