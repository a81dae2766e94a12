-- Where records lie in octets, and the rule of them all, for a file and a site alike. Assumes nothing: these are definitions.
-- body_by    the records of a kind, by the places and counts that the octets have
-- holds_by   the shape is right, and the records of the bodies b keep their rules
use Rattle.std.specs.Prelude.{ℕ, ◌*◌, Bool, ◌&&◌, List, take}
use Rattle.meaning.specs.Octets.{part}
use Rattle.meaning.specs.Records.{settings, width_of, own_at, tables_in, store_in, store_rule}

abbrev pub body_by : (List ℕ → ℕ → ℕ) → (List ℕ → ℕ → ℕ) → List ℕ → ℕ → List ℕ
body_by place count s k = part (place s k) (width_of k * count s k) s

abbrev pub holds_by : Bool → (ℕ → List ℕ) → Bool
holds_by shape b = shape && store_rule (store_in (tables_in (take own_at (b settings)) b) b)
