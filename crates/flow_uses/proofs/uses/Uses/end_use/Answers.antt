use Rattle.std.proofs.Common.{ap, sym, subst, ◌∙◌, ◌==◌, ◌&&◌, ◌+◌, ◌-◌, not, List, ℕ, length, if◌then◌else◌, vec_len, vec_capacity}
use Rattle.flow_uses.specs.Uses.{AreFrames, has}
use Rattle.flow_uses.proofs.Sets.{has-without, length-ended, without, places_kept}
use Rattle.flow_uses.proofs.Rising.{frames_without, set_of_rising}
use Rattle.flow_uses.proofs.uses.Uses.end_use.Goals as goal

pub invariant_of-self : goal.invariant_of-self
invariant_of-self c = subst AreFrames (sym c.take_away.ensures.items) (frames_without c.self.inside.frames.items c.args.no c.self.invariant)

pub returns-clause-frames : goal.returns-clause-frames
returns-clause-frames c = λ u. ap (λ (l : List ℕ). has l u) c.take_away.ensures.items ∙ has-without c.args.no u c.self.inside.frames.items ∙ ap (λ v. has v.frames u && not (u == c.args.no)) c.self.view_is

pub returns-clause-count : goal.returns-clause-count
returns-clause-count c = ap (λ v. length v.frames) (sym c.self.view_is)
    ∙ length-ended c.args.no c.self.inside.frames.items (set_of_rising _ c.self.invariant.rising)
    ∙ ap (λ b. if b then length (without c.args.no c.self.inside.frames.items) + 1 else length (without c.args.no c.self.inside.frames.items)) (sym c.take_away.ensures.was)
    ∙ ap (λ (l : List ℕ). if c.take_away.result then length l + 1 else length l) (sym c.take_away.ensures.items)

pub returns-clause-room : goal.returns-clause-room
returns-clause-room c = places_kept _ _ _ _ (vec_capacity c.self.inside.frames) (vec_len c.self.inside.frames) (vec_len c.take_away.new.items)
    (c.self.inside.frames.ok.0 ∙ ap (λ v. length v.frames) c.self.view_is)
    (ap (λ v. v.room) c.self.view_is)
    c.self.inside.frames.ok.1
    c.take_away.new.items.ok.0
    (ap (λ k. k - vec_len c.take_away.new.items) (sym c.take_away.ensures.capacity))
