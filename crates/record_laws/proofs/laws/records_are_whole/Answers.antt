use Rattle.record_laws.proofs.Gathering.{whole}
use Rattle.record_laws.proofs.laws.records_are_whole.Goals as goal

pub returns : goal.returns
returns c = record { whole = λ w t d l told h lines p n. whole w t d l told h lines p n }
