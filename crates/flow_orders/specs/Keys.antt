-- By what the flows of a bucket are ordered.
use Rattle.std.specs.Prelude.{ℕ, Bool, true, false, Option, None}
use Rattle.key_order.specs.declared.ages.Age.{Age}
use Rattle.key_order.specs.declared.places.KeyPlace.{KeyPlace}
use Rattle.key_order.specs.Ages.{age_cmp, age_of}
use Rattle.key_order.specs.KeyPlaces.{place_cmp, place_of}
use Rattle.slot_order.specs.Index.{bears_by, key_in}
use Rattle.flow_orders.specs.Flow.{Held, deadline_of, has, is_linked, is_unused_held}
use Rattle.flow_orders.specs.declared.marks.Marks.{Marks}
use Rattle.flow_orders.specs.declared.marks.Times.{Times}

abbrev pub is_linked_held : Held → Bool
is_linked_held f = is_linked f.place

abbrev pub key_of : Held → KeyPlace
key_of f = place_of f.obj.sums.key

abbrev pub last_seen : Held → Age
last_seen f = age_of f.obj.sums.last_clock f.run

abbrev pub deadline : Bool → Held → Age
deadline emergency f = age_of (deadline_of emergency f) f.run

-- what each order holds
abbrev pub bears_key : Held → KeyPlace → Bool
bears_key = bears_by place_cmp is_linked_held key_of

abbrev pub bears_deadline : Bool → Held → Age → Bool
bears_deadline emergency = bears_by age_cmp is_linked_held (deadline emergency)

abbrev pub bears_unused : Held → Age → Bool
bears_unused = bears_by age_cmp is_unused_held last_seen

abbrev pub bears_use : Held → ℕ → Bool
bears_use f u = has f.uses u

-- under which keys what is in a slot stands in four of them
abbrev pub marks_of : Option Held → Marks
marks_of o = record {
  key = key_in is_linked_held key_of o;
  due = key_in is_linked_held (deadline false) o;
  due_in_emergency = key_in is_linked_held (deadline true) o;
  unused = key_in is_unused_held last_seen o;
}

-- those of these that packets change
abbrev pub times_in : Marks → Times
times_in m = record { due = m.due; due_in_emergency = m.due_in_emergency; unused = m.unused }

-- all but the place among the unused
abbrev pub but_unused : Marks → Marks
but_unused m = record m { unused = None }
