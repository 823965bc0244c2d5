use Rattle.std.proofs.Common.{◌∷◌, refl, subst, sym, ◌∙◌}
use Rattle.suri_base.specs.declared.seen.Seen.TheVariants.{Bears}
use Rattle.capture_index.specs.Links.{Tells}
use Rattle.capture_index.specs.declared.firsts.Firsts.{Firsts}
use Rattle.capture_index.proofs.Nexting.{long_put, short_put}
use Rattle.capture_index.proofs.firsts.Firsts.put.Goals as goal
use Rattle.capture_index.proofs.firsts.Firsts.put.Goals.{in-Some+in_ok-before-in-Some, in-None+in_ok-before-in-None}

pub returns-clause-told : goal.returns-clause-told
returns-clause-told c f behind key_is number_is tells =
    let m = c.args.self.now in
    elim c.match-of.branch [
      | in-Some+in_ok-before-in-Some w ↦
          subst (λ (n : Firsts). Tells n (Bears f ∷ behind)) (sym w.self-is)
          (short_put m (record { short = w.insert.new.self; long = m.long }) c.args.key w.in-Some.short c.args.no f behind (sym w.in-Some.is ∙ c.of.ensures) w.in_ok-before-in-Some.ensures.updates.0 refl key_is number_is tells)
      | in-None+in_ok-before-in-None w ↦
          subst (λ (n : Firsts). Tells n (Bears f ∷ behind)) (sym w.self-is)
          (long_put m (record { short = m.short; long = w.insert-in-None.new.self }) c.args.key c.args.no f behind (sym w.in-None.is ∙ c.of.ensures) w.in_ok-before-in-None.ensures.updates.0 refl key_is number_is tells)
    ]
