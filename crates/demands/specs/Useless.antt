-- 'How much each promise says': receivers of no use, which demand 2 must shut out. Assumes nothing: these are definitions.
-- Receiver      what answers a site, a frame and an output
-- Promised      demand 2: it gives what `received` gives
-- the others    one useless version each
use Rattle.std.specs.Prelude.{ℕ, suc, ◌≡◌, ◌≢◌, List}
use Rattle.meaning.specs.Frame.{counter_of, view, private_len}
use Rattle.meaning.specs.Fcs.{inner}
use Rattle.meaning.specs.Receive.{Received, raise, raised_in, Outcome, received}

abbrev pub Receiver : Type 0
Receiver = List ℕ → List ℕ → List ℕ → Outcome

abbrev pub Promised : Receiver → Type 0
Promised R = (s f o : List ℕ) → R s f o ≡ received s f o

-- it refuses all
abbrev pub RefusesAll : Receiver → Type 0
RefusesAll R = (s f o : List ℕ) → (R s f o).answer.status ≢ 0

-- it returns one success
abbrev pub OneSuccess : Receiver → Type 0
OneSuccess R = (a : Received) × ((s f o : List ℕ) → (R s f o).answer.status ≡ 0 → (R s f o).answer ≡ a)

-- it writes nothing
abbrev pub WritesNothing : Receiver → Type 0
WritesNothing R = (s f o : List ℕ) → (R s f o).out ≡ o

-- it repeats the first frame's verdict
abbrev pub Repeats : Receiver → Type 0
Repeats R = (s f g o : List ℕ) → (R (R s f o).site g (R s f o).out).answer.status ≡ (R s f o).answer.status

-- it does not invent the private length: that is what header, security header, open payload and tag leave of the frame
abbrev pub TrueLength : Receiver → Type 0
TrueLength R = (s f o : List ℕ) → (R s f o).answer.status ≡ 0 → (R s f o).answer.private ≡ private_len (view (inner f))

-- nor the counter: the device's becomes the frame's plus 1, and nothing else in the site changes
abbrev pub TrueCounter : Receiver → Type 0
TrueCounter R =
    (s f o : List ℕ) → (R s f o).answer.status ≡ 0 → (R s f o).answer.level ≢ 0
    → (j d : ℕ) × ((R s f o).answer.device ≡ suc d) × ((R s f o).site ≡ raised_in (raise j d (counter_of (view (inner f)).aux)) s)
