-- The key lookup over the key source compared, and the search through handles in octets. Assumes nothing: these are definitions.
-- implicit_row   key mode 0: the first lookup record of the peer
-- key_row_by      the first lookup record that matches; in modes 1 to 3 by the source given
-- handle_row_by   `handle_row` over the body of the handles
use Rattle.std.specs.Prelude.{ℕ, ◌+◌, ◌*◌, ◌&&◌, List, eqb, get_or, Option, Some, None}
use Rattle.meaning.specs.Octets.{pick, first}
use Rattle.meaning.specs.Records.{records, no_device}
use Rattle.meaning.specs.Steps.{is_peer, lookup_row, peer_octets}
use Rattle.meaning.specs.declared.Address.{Address}
use Rattle.meaning.specs.declared.Device.{Device}

unfoldable pub implicit_row : List ℕ → Address → Option ℕ
implicit_row b p = pick (eqb p.mode 0) None (lookup_row b 0 11 p.mode (peer_octets p))

unfoldable pub key_row_by : List ℕ → ℕ → ℕ → List ℕ → Address → Option ℕ
key_row_by b mode index source p = pick (eqb mode 0) (implicit_row b p) (lookup_row b mode 2 index source)

unfoldable pub handle_row_by : List ℕ → List Device → ℕ → Address → Option ℕ
handle_row_by b ds k p =
    first (λ j. eqb (get_or b (2 * j) 0) k && is_peer p (get_or ds (get_or b (2 * j + 1) 0) no_device)) Some None (records 2 b)
