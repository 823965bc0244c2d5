-- One round after another: each role may play, and after its round the kinds and the numbers of the roles are as before.
use Rattle.std.proofs.Common.{◌≡◌, ◌≢◌, ℕ, suc, ◌+◌, ◌<◌, false, length, get_or, drop, take, List, ◌++◌, sym, ◌∙◌, subst, arith}
use Rattle.role_meets.specs.Meets.{MetAll}
use Rattle.role_meets.specs.Parts.{kind_at, kind_of, recycles, waiting_of}
use Rattle.role_meets.specs.declared.roles.Role.{Role}
use Rattle.role_steps.specs.Items.{Items}
use Rattle.role_steps.specs.Roles.{setup_of}
use Rattle.role_steps.specs.declared.roles.Recycler.{Recycler}
use Rattle.role_steps.specs.declared.roles.Shared.{Shared}
use Rattle.lock_rows.proofs.Goods.{whole_back}
use Rattle.round_laws.proofs.Going.{goes_on}
use Rattle.round_laws.proofs.Parts.{is_recycler, recycler_kind}
use Rattle.round_laws.proofs.Resting.{may_play, rests_part}
use Rattle.round_laws.specs.Between.{Between}
use Rattle.round_laws.specs.Playing.{AllPlayed, AreHandedOn, MayPlay, Played}
use Rattle.run_laws.specs.RoundEnd.{next_queue}
use Rattle.run_rules.specs.Setup.{rounds}
use Rattle.run_round.proofs.Handing.{played_kind}

pub may_at : (s : Shared) (round : ℕ) (all : List Role) (e : Recycler) → Between s round all e → round < rounds (setup_of s) → (k : ℕ) (d : Role) → k < length all → MayPlay s round (get_or all k d).part
may_at s round all e b low k d real =
    may_play s b.laid b.t round b.at low b.puts k (get_or all k d).part (omega (arith, real, b.count))
    (rests_part s b.t k (b.at.acts k) (get_or all k d) (b.rests k d real))
    (λ is. subst (λ (n : ℕ). Items (setup_of s) b.t (next_queue (setup_of s) b.at.hands) (waiting_of (get_or all n d).part)) (sym is) (b.waiting d))

pub all_played : (s : Shared) (round : ℕ) (begun played : List Role) → length played ≡ length begun
    → ((k : ℕ) (d : Role) → k < length begun → (get_or played k d).failed ≡ false → Played s round (get_or begun k d).part (get_or played k d).part)
    → ((k : ℕ) (d : Role) → k < length played → (get_or played k d).failed ≡ false) → AllPlayed s round begun played
all_played s round begun played count did well = record {
  count = count;
  played = λ k d real. did k d real (well k d (omega (arith, count, real)));
  well = λ k d real. well k d (omega (arith, count, real));
}

-- after the round and the meeting each role is of the kind that it was of
pub met_kind : (s : Shared) (round : ℕ) (begun played met : List Role) (e f : Recycler) → Between s round begun e → AllPlayed s round begun played → MetAll s played met e f
    → (k : ℕ) (d : Role) → k < length met → kind_of (get_or met k d).part ≡ kind_at s.layout.workers k
met_kind s round begun played met e f b all m k d below =
    let there : k < length played = omega (arith, m.count, below) in
    let real : k < length begun = omega (arith, all.count, there) in
    (m.roles k d there).same.kind ∙ (played_kind s round _ _ (all.played k d real) ∙ (b.rests k d real).kind)

-- the recycler is the last of the roles, and no other one is a recycler
pub last_recycles : (n : ℕ) (met : List Role) → length met ≡ n + 2 → ((k : ℕ) (d : Role) → k < length met → kind_of (get_or met k d).part ≡ kind_at n k)
    → (m : ℕ) × (length met ≡ m + 1) × ((d : Role) → kind_of (get_or met m d).part ≡ recycles)
last_recycles n met count kinds = (n + 1, omega (arith, count), λ d. kinds (n + 1) d (omega (arith, count)) ∙ recycler_kind n)

pub others_apart : (n : ℕ) (met : List Role) → length met ≡ n + 2 → ((k : ℕ) (d : Role) → k < length met → kind_of (get_or met k d).part ≡ kind_at n k)
    → (k : ℕ) (d : Role) → k + 1 < length met → kind_of (get_or met k d).part ≢ recycles
others_apart n met count kinds k d low h =
    let last : k ≡ n + 1 = is_recycler n k (sym h ∙ kinds k d (omega (arith, low))) (omega (arith, low, count)) in
    omega (arith, low, count, last)

module _ (s : Shared) (round : ℕ) (begun played met : List Role) (e f : Recycler) (b : Between s round begun e) (all : AllPlayed s round begun played) (m : MetAll s played met e f) where
  as_many : length met ≡ s.layout.workers + 2
  as_many = m.count ∙ (all.count ∙ b.count)

  pub ends_in_recycler : (n : ℕ) × (length met ≡ n + 1) × ((d : Role) → kind_of (get_or met n d).part ≡ recycles)
  ends_in_recycler = last_recycles s.layout.workers met as_many (met_kind s round begun played met e f b all m)

  pub others_are_none : (k : ℕ) (d : Role) → k + 1 < length met → kind_of (get_or met k d).part ≢ recycles
  others_are_none = others_apart s.layout.workers met as_many (met_kind s round begun played met e f b all m)

  pub next_round : (handed : List Role) → round < rounds (setup_of s) → AreHandedOn met handed → Between s (round + 1) handed f
  next_round handed low h =
      let one : suc round ≡ round + 1 = omega arith in
      subst (λ (n : ℕ). Between s n handed f) one (goes_on s round begun played met handed e f b low all m h)

-- a list of roles that was lent as a slice comes back whole
pub still : (s : Shared) (n m k : ℕ) (olds news : List Role) (d e : Recycler) (len : ℕ) → Between s m olds d → Between s n news e → len ≡ length olds → n ≡ k → Between s k (take len (news ++ drop (length news) olds)) e
still s n m k olds news d e len a b is same =
    subst (λ (l : List Role). Between s k l e) (sym (whole_back news olds len (b.count ∙ sym a.count) is)) (subst (λ (x : ℕ). Between s x news e) same b)
