-- The places of the script between which one packet moves a worker.
use Rattle.std.specs.Prelude.{◌≡◌, ℕ, ◌==◌, Bool, List, ◌∷◌, map, if◌then◌else◌}
use Rattle.flow_object.specs.Ending.{EndedFlow}
use Rattle.role_steps.specs.Items.{gone_of}
use Rattle.run_rules.specs.Worker.{Stage, Stand, asking, close_on, closing, denied, evicting, free_on, granted, look_on, looking, missed, settle_on, settling, takes_on, turning}

-- frame f is the next to be looked up, by this reading of the mode
pub record is_looking (f : ℕ) (emergency : Bool) (n : ℕ) (st : Stand) (todo : List ℕ) : Type 0 where
  pub stage : st.stage ≡ looking (f ∷ todo)
  pub mode : st.emergency ≡ emergency
  pub read : st.seen ≡ n

abbrev pub is_missed : ℕ → Stand → List ℕ → Type 0
is_missed f st todo = st.stage ≡ missed f todo

-- so many buckets had no flow to let go; after the last of them the frame is refused
abbrev pub evict_on : ℕ → ℕ → ℕ → List ℕ → Stage
evict_on rows k f todo = if k == rows then denied f todo else evicting f k todo

abbrev pub is_evicting : ℕ → ℕ → ℕ → Stand → List ℕ → Type 0
is_evicting rows k f st todo = st.stage ≡ evict_on rows k f todo

-- no object was left: the front of the hand is finished, or the buckets are asked
abbrev pub is_taken : List EndedFlow → ℕ → Stand → List ℕ → Type 0
is_taken hand f st todo = st.stage ≡ takes_on (map gone_of hand) f todo

abbrev pub is_turning : ℕ → Stand → List ℕ → Type 0
is_turning f st todo = st.stage ≡ turning f todo

abbrev pub is_granted : ℕ → Stand → List ℕ → Type 0
is_granted f st todo = st.stage ≡ granted f todo

abbrev pub is_denied : ℕ → Stand → List ℕ → Type 0
is_denied f st todo = st.stage ≡ denied f todo

abbrev pub is_settling : Bool → ℕ → Stand → List ℕ → Type 0
is_settling had f st todo = st.stage ≡ settling f had todo

abbrev pub is_asking : ℕ → Stand → List ℕ → Type 0
is_asking f st todo = st.stage ≡ asking f todo

-- frame f is the next to be closed
abbrev pub is_closing : ℕ → Stand → List ℕ → Type 0
is_closing f st todo = st.stage ≡ closing (f ∷ todo)

-- so many nodes came back
abbrev pub is_freeing : ℕ → Stand → List ℕ → Type 0
is_freeing n st todo = st.stage ≡ free_on n todo

-- where they lead

abbrev pub to_freeing : ℕ → Stand → List ℕ → Stage
to_freeing n st todo = free_on n todo

abbrev pub to_closing : Stand → List ℕ → Stage
to_closing st todo = close_on todo

abbrev pub to_missed : ℕ → Stand → List ℕ → Stage
to_missed f st todo = missed f todo

abbrev pub to_taken : List EndedFlow → ℕ → Stand → List ℕ → Stage
to_taken hand f st todo = takes_on (map gone_of hand) f todo

abbrev pub to_turning : ℕ → Stand → List ℕ → Stage
to_turning f st todo = turning f todo

abbrev pub to_evicting : ℕ → ℕ → ℕ → Stand → List ℕ → Stage
to_evicting rows k f st todo = evict_on rows k f todo

abbrev pub to_settling_it : Bool → ℕ → Stand → List ℕ → Stage
to_settling_it had f st todo = settling f had todo

abbrev pub to_granted : ℕ → Stand → List ℕ → Stage
to_granted f st todo = granted f todo

abbrev pub to_denied : ℕ → Stand → List ℕ → Stage
to_denied f st todo = denied f todo

abbrev pub to_settling : Bool → ℕ → Stand → List ℕ → Stage
to_settling needs f st todo = settle_on needs f st.batch todo

abbrev pub to_next : Stand → List ℕ → Stage
to_next st todo = look_on st.batch todo
