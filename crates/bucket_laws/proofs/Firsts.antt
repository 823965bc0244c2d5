-- A run is named by its first packet.
use Rattle.std.proofs.Common.{◌≡◌, ℕ, ◌==◌, Bool, true, false, cond, List, [], ◌∷◌, Option, Some, None, ◌⊎◌, inl, inr, refl, sym, ◌∙◌, ap, subst}
use Rattle.suri_base.specs.declared.entry.BucketNote.{BucketNote}
use Rattle.suri_base.specs.declared.entry.BucketNote.TheVariants.{Found, Missing, Made, Refused, Stored, Stopped, Closed, Idle, Victim, AllInUse, Swept, Drained}
use Rattle.suri_base.specs.declared.entry.Entry.{Entry}
use Rattle.suri_base.specs.declared.facts.Facts.{Facts}
use Rattle.bucket_rules.specs.Packets.{bearing}
use Rattle.bucket_rules.specs.Row.{row, has, with_packet, made}
use Rattle.bucket_rules.specs.Rule.{IsLegal}
use Rattle.bucket_rules.specs.declared.fixed.Fixed.{Fixed}
use Rattle.bucket_rules.proofs.Beginning.{begun_run}
use Rattle.bucket_rules.proofs.Rowing.{members_after, after-members, begins}
use Rattle.bucket_rules.proofs.Soundness.{sound}
use Rattle.bucket_laws.specs.Naming.{IsNamedByFirst}
use Rattle.bucket_laws.proofs.Steps.{made_split}
use Rattle.bucket_laws.proofs.Tests.{either}

-- one packet more leaves the first
one_more : (s : Fixed) (a : ℕ) (o : Option Facts) (ms : List Facts) → IsNamedByFirst s a ms → IsNamedByFirst s a (with_packet o ms)
one_more s a None ms n = n
one_more s a (Some t) ms n = record {
  run = record { newest = t; older = n.run.newest ∷ n.run.older };
  members = ap (λ us. t ∷ us) n.members;
  first = n.first;
}

join_named : (s : Fixed) (a : ℕ) (b : Bool) (o : Option Facts) (ms : List Facts) → IsNamedByFirst s a ms → IsNamedByFirst s a (cond b (with_packet o ms) ms)
join_named s a true o ms n = one_more s a o ms n
join_named s a false o ms n = n

stays_named : (s : Fixed) (n : BucketNote) (a : ℕ) (ms : List Facts) → begins n a ≡ false → IsNamedByFirst s a ms → IsNamedByFirst s a (members_after s n a ms)
stays_named s (Found g emergency seen run said) a ms b k = join_named s a (run == a) (bearing s.capture g) ms k
stays_named s (Missing g emergency seen ended) a ms b k = k
stays_named s (Made g said) a ms b k = subst (λ (c : Bool). IsNamedByFirst s a (cond c (with_packet (bearing s.capture g) []) ms)) (sym b) k
stays_named s (Refused g) a ms b k = k
stays_named s (Stored g) a ms b k = k
stays_named s (Stopped g) a ms b k = k
stays_named s (Closed g app run freed ended) a ms b k = k
stays_named s (Idle g app) a ms b k = k
stays_named s (Victim g run) a ms b k = k
stays_named s (AllInUse g count) a ms b k = k
stays_named s (Swept round emergency seen count) a ms b k = k
stays_named s (Drained count) a ms b k = k

pub named_by_first : (s : Fixed) (history : List (Entry BucketNote)) (a : ℕ) → IsLegal s history → has (made history) a ≡ true
    → IsNamedByFirst s a (row s a history).members
named_by_first s [] a l m = cc
named_by_first s (e ∷ past) a l m =
    subst (IsNamedByFirst s a) (sym (after-members s a e.note (row s a past)))
    (by (begins e.note a) refl (either (begins e.note a) (has (made past) a) (sym (made_split e.note (made past) a) ∙ m)) (λ k. named_by_first s past a l.1 k))
  where
    by : (b : Bool) → begins e.note a ≡ b → (begins e.note a ≡ true) ⊎ (has (made past) a ≡ true)
        → (has (made past) a ≡ true → IsNamedByFirst s a (row s a past).members)
        → IsNamedByFirst s a (members_after s e.note a (row s a past).members)
    by true x h more =
        let w = begun_run s past e.role e.note a (sound s past l.1) l.0 x in
        record {
          run = record { newest = w.0.own.packet; older = [] };
          members = sym (after-members s a e.note (row s a past)) ∙ w.1;
          first = w.0.own.bears;
        }
    by false x (inl h) more = none (sym h ∙ x)
      where
        none : true ≡ false → IsNamedByFirst s a (members_after s e.note a (row s a past).members)
        none k = cc
    by false x (inr h) more = stays_named s e.note a (row s a past).members x (more h)
