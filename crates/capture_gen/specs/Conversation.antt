-- The conversations of a generated capture, and the numbers from which they are drawn.
use Rattle.std.specs.Prelude.{ℕ, ◌+◌, ◌*◌, ◌/◌, ◌%◌, ◌^◌, ◌==◌, nat_lt, if◌then◌else◌}
use Rattle.capture_gen.specs.declared.conversation.Kind.{Kind}
use Rattle.capture_gen.specs.declared.conversation.Kind.TheVariants.{Web, Query, Ping}
use Rattle.capture_gen.specs.declared.conversation.Conversation.{Conversation}

-- the state after this one: a linear congruential generator modulo 2^64 (Knuth's MMIX)
abbrev pub next : ℕ → ℕ
next x = (x * 6364136223846793005 + 1442695040888963407) % 2 ^ 64

-- the number below n that a state gives: its upper 31 bits, modulo n
abbrev pub drawn : ℕ → ℕ → ℕ
drawn n x = x / 2 ^ 33 % n

-- the kind that the first draw stands for: two in four are of the web
abbrev pub kind_of : ℕ → Kind
kind_of n = if nat_lt n 2 then Web else (if n == 2 then Query else Ping)

-- the kind of the conversation that is drawn from a state on
abbrev pub kind_from : ℕ → Kind
kind_from x = kind_of (drawn 4 (next x))

-- the conversation that is drawn from a state on: its kind, the client's last byte and port, the server's last byte, the size
abbrev pub conversation_from : ℕ → Conversation
conversation_from x = record {
  kind = kind_from x;
  client = 1 + drawn 200 (next (next x));
  port = 1024 + drawn 60000 (next (next (next x)));
  server = 1 + drawn 16 (next (next (next (next x))));
  size = drawn 400 (next (next (next (next (next x)))));
}

-- the state after the five draws of a conversation
abbrev pub after_draws : ℕ → ℕ
after_draws x = next (next (next (next (next x))))

-- how many frames a conversation of a kind has
abbrev pub steps_of : Kind → ℕ
steps_of Web = 10
steps_of Query = 2
steps_of Ping = 2
