use Rattle.std.proofs.Common.{◌≡◌, Result, Ok, Err, ap, inr, map, refl, rules, string_bytes, subst, sym}
use Rattle.std.specs.Prelude.{MatchResult}
use Rattle.suri_run.specs.declared.cause.Cause.{Cause}
use Rattle.suri_run.specs.Run.{AskForOne, IsUnbegun, SinkSeen, SourceSeen}
use Rattle.suri_run.proofs.top.run_args.Goals as goal

match_weaker : {T E : Type 0} (r : Result T E) (P Q : T → Type 0) (A B : E → Type 0) → ((t : T) → P t → Q t) → ((e : E) → A e → B e) → MatchResult r P A → MatchResult r Q B
match_weaker (Ok t) P Q A B one other h = one t h
match_weaker (Err e) P Q A B one other h = other e h

pub returns-in-Ok-clause-unread : goal.returns-in-Ok-clause-unread
returns-in-Ok-clause-unread g c =
    let words : AskForOne (map string_bytes c.in-Ok.words.items) → c.run.new.source ≡ c.args.source.now = rw c.deref.ensures.value at c.run.ensures.unread in
    match_weaker c.args.args _ _ _ _ (λ args is asks. words (subst (λ ws. AskForOne ws) (sym (ap (λ ws. map string_bytes ws) is)) asks)) (λ fault bad. cc) c.in-Ok.ensures

pub returns-in-Err-clause-ends : goal.returns-in-Err-clause-ends
returns-in-Err-clause-ends g c =
    let s : SourceSeen = record {
      left = g.S.Source.left c.args.source.now;
      rest = g.S.Source.left c.args.source.now;
      before = g.S.Source.faults c.args.source.now;
      after = g.S.Source.faults c.args.source.now;
    } in
    let k : SinkSeen = record { old = g.K.Sink.taken c.args.sink.now; new = g.K.Sink.taken c.args.sink.now; before = g.K.Sink.faults c.args.sink.now; after = g.K.Sink.faults c.args.sink.now } in
    let e : SinkSeen = record { old = g.E.Sink.taken c.args.notes.now; new = g.E.Sink.taken c.end.new.notes; before = g.E.Sink.faults c.args.notes.now; after = g.E.Sink.faults c.end.new.notes } in
    let unbegun : IsUnbegun c.end.result c.in-Err.cause s k e = record {
      returned = c.end.ensures.returned;
      source = record { same = refl; quiet = refl };
      untold = c.end.ensures.told;
      sink = record { kept = search rules; quiet = refl };
      noted = c.end.ensures.noted;
    } in
    match_weaker c.args.args _ _ _ _ (λ words is. inr (subst (λ (x : Cause). IsUnbegun c.end.result x s k e) is unbegun)) (
    λ fault is.
    let same : c.in-Err.cause ≡ _ = cc in
    subst (λ (x : Cause). IsUnbegun c.end.result x s k e) same unbegun
    ) c.in-Err.ensures
