-- What a pool answers is fixed by the call, by how many objects are out and by the mode: proofs of two of its laws, which stand here since the `impl` cites them.
use Rattle.std.proofs.Common.{◌≡◌, ◌<◌, ℕ, Bool, List, sym, ap, ◌∙◌, subst}
use Rattle.std.proofs.Math.Nat.{lt_irrefl}
use Rattle.suri_base.specs.declared.entry.Entry.{Entry}
use Rattle.suri_base.specs.declared.entry.PoolNote.{PoolNote}
use Rattle.suri_base.specs.declared.entry.PoolNote.TheVariants as note
use Rattle.flow_pool.specs.declared.calls.PoolCall.{PoolCall}
use Rattle.flow_pool.specs.declared.calls.PoolCall.TheVariants as call
use Rattle.flow_pool.specs.declared.calls.PoolReply.{PoolReply}
use Rattle.flow_pool.specs.declared.calls.PoolReply.TheVariants as reply
use Rattle.flow_pool.specs.declared.calls.PoolSetting.{PoolSetting}
use Rattle.flow_pool.specs.Counting.{flows_out, is_on, Answered, AreAlike}

not_both : (memcap out : ℕ) → out < memcap → out ≡ memcap → ⊥
not_both memcap out low is = lt_irrefl memcap (subst (λ k. k < memcap) is low)

same : (s : PoolSetting) (out : ℕ) (on : Bool) (c : PoolCall) (r t : PoolReply) (n m : PoolNote) → Answered s out on c r n → Answered s out on c t m → (n ≡ m) × AreAlike r t
same s out on (call.Take frame) (reply.Obj o) (reply.Obj p) n m a b = (a.2 ∙ sym b.2, tt)
same s out on (call.Take frame) (reply.Obj o) (reply.Full k l) n m a b = absurd (not_both s.memcap out a.0 b.0)
same s out on (call.Take frame) (reply.Full k l) (reply.Obj p) n m a b = absurd (not_both s.memcap out b.0 a.0)
same s out on (call.Take frame) (reply.Full k l) (reply.Full i j) n m a b = (a.3 ∙ sym b.3, (a.1 ∙ sym b.1, a.2 ∙ sym b.2))
same s out on (call.Take frame) (reply.Obj o) t n m a b = absurd b
same s out on (call.Take frame) (reply.Full k l) t n m a b = absurd b
same s out on (call.Put run obj) reply.Done reply.Done n m a b = (a ∙ sym b, tt)
same s out on (call.Put run obj) reply.Done t n m a b = absurd b
same s out on (call.Turn run frame obj) (reply.Turned o) (reply.Turned p) n m a b = (a.2 ∙ sym b.2, tt)
same s out on (call.Turn run frame obj) (reply.Turned o) t n m a b = absurd b
same s out on call.Mode (reply.On x) (reply.On y) n m a b = (a.1 ∙ sym b.1, a.0 ∙ sym b.0)
same s out on call.Mode (reply.On x) t n m a b = absurd b
same s out on (call.Over round) (reply.Ended x) (reply.Ended y) n m a b = let e = a.0 ∙ sym b.0 in (a.1 ∙ ap (λ k. note.Over round k) e ∙ sym b.1, e)
same s out on (call.Over round) (reply.Ended x) t n m a b = absurd b
same s out on c r t n m a b = absurd a

pub one_note : (s : PoolSetting) (past : List (Entry PoolNote)) (c : PoolCall) (r t : PoolReply) (n m : PoolNote)
    → Answered s (flows_out past) (is_on past) c r n → Answered s (flows_out past) (is_on past) c t m → n ≡ m
one_note s past c r t n m a b = (same s (flows_out past) (is_on past) c r t n m a b).0

pub one_reply : (s : PoolSetting) (past : List (Entry PoolNote)) (c : PoolCall) (r t : PoolReply) (n m : PoolNote)
    → Answered s (flows_out past) (is_on past) c r n → Answered s (flows_out past) (is_on past) c t m → AreAlike r t
one_reply s past c r t n m a b = (same s (flows_out past) (is_on past) c r t n m a b).1
