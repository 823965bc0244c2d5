-- What a pool answers is fixed by the call and by how many nodes are out: proofs of two of its laws, which stand here since the `impl` cites them.
use Rattle.std.proofs.Common.{◌≡◌, ◌<◌, ℕ, List, sym, ◌∙◌, subst}
use Rattle.std.proofs.Math.Nat.{lt_irrefl}
use Rattle.suri_base.specs.declared.entry.Entry.{Entry}
use Rattle.suri_base.specs.declared.entry.SegNote.{SegNote}
use Rattle.segment_pool.specs.declared.calls.SegCall.{SegCall}
use Rattle.segment_pool.specs.declared.calls.SegCall.TheVariants as call
use Rattle.segment_pool.specs.declared.calls.SegReply.{SegReply}
use Rattle.segment_pool.specs.declared.calls.SegReply.TheVariants as reply
use Rattle.segment_pool.specs.Counting.{out_of, Answered, AreAlike}

not_both : (limit out : ℕ) → out < limit → out ≡ limit → ⊥
not_both limit out low is = lt_irrefl limit (subst (λ k. k < limit) is low)

same_note : (limit out : ℕ) (c : SegCall) (r s : SegReply) (n m : SegNote) → Answered limit out c r n → Answered limit out c s m → n ≡ m
same_note limit out (call.Take frame) (reply.Node x) (reply.Node y) n m a b = a.2 ∙ sym b.2
same_note limit out (call.Take frame) (reply.Node x) (reply.Full k l) n m a b = absurd (not_both limit out a.0 b.0)
same_note limit out (call.Take frame) (reply.Full k l) (reply.Node y) n m a b = absurd (not_both limit out b.0 a.0)
same_note limit out (call.Take frame) (reply.Full k l) (reply.Full i j) n m a b = a.3 ∙ sym b.3
same_note limit out (call.Take frame) (reply.Node x) reply.Gave n m a b = absurd b
same_note limit out (call.Take frame) (reply.Full k l) reply.Gave n m a b = absurd b
same_note limit out (call.Take frame) reply.Gave s n m a b = absurd a
same_note limit out (call.Give nodes) reply.Gave reply.Gave n m a b = a ∙ sym b
same_note limit out (call.Give nodes) reply.Gave (reply.Node y) n m a b = absurd b
same_note limit out (call.Give nodes) reply.Gave (reply.Full i j) n m a b = absurd b
same_note limit out (call.Give nodes) (reply.Node x) s n m a b = absurd a
same_note limit out (call.Give nodes) (reply.Full k l) s n m a b = absurd a

same_reply : (limit out : ℕ) (c : SegCall) (r s : SegReply) (n m : SegNote) → Answered limit out c r n → Answered limit out c s m → AreAlike r s
same_reply limit out (call.Take frame) (reply.Node x) (reply.Node y) n m a b = tt
same_reply limit out (call.Take frame) (reply.Node x) (reply.Full k l) n m a b = absurd (not_both limit out a.0 b.0)
same_reply limit out (call.Take frame) (reply.Full k l) (reply.Node y) n m a b = absurd (not_both limit out b.0 a.0)
same_reply limit out (call.Take frame) (reply.Full k l) (reply.Full i j) n m a b = (a.1 ∙ sym b.1, a.2 ∙ sym b.2)
same_reply limit out (call.Take frame) (reply.Node x) reply.Gave n m a b = absurd b
same_reply limit out (call.Take frame) (reply.Full k l) reply.Gave n m a b = absurd b
same_reply limit out (call.Take frame) reply.Gave s n m a b = absurd a
same_reply limit out (call.Give nodes) reply.Gave reply.Gave n m a b = tt
same_reply limit out (call.Give nodes) reply.Gave (reply.Node y) n m a b = absurd b
same_reply limit out (call.Give nodes) reply.Gave (reply.Full i j) n m a b = absurd b
same_reply limit out (call.Give nodes) (reply.Node x) s n m a b = absurd a
same_reply limit out (call.Give nodes) (reply.Full k l) s n m a b = absurd a

pub one_note : (limit : ℕ) (past : List (Entry SegNote)) (c : SegCall) (r s : SegReply) (n m : SegNote) → Answered limit (out_of past) c r n → Answered limit (out_of past) c s m → n ≡ m
one_note limit past = same_note limit (out_of past)

pub one_reply : (limit : ℕ) (past : List (Entry SegNote)) (c : SegCall) (r s : SegReply) (n m : SegNote) → Answered limit (out_of past) c r n → Answered limit (out_of past) c s m → AreAlike r s
one_reply limit past = same_reply limit (out_of past)
