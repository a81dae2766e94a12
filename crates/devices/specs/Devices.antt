-- The search of device records through the handles of a key, in steps. Assumes nothing: these are definitions.
-- What is right is the meaning's `handle_row`, here over the body of the handles (`handle_row_by`): a handle is two octets, a key's number and a device's.
-- handle_from   the trial of the key's first handle from a number on, or none
-- devices_of    a table's records, with empty ones up to 64
-- found_at      the search in a whole site
use Rattle.std.specs.Prelude.{ℕ, ◌+◌, ◌-◌, ◌*◌, Bool, List, get_or, take, ltb, eqb, Option, Some, None}
use Rattle.meaning.specs.Octets.{pick, scan, tab}
use Rattle.meaning.specs.Records.{records, device_at, no_device}
use Rattle.meaning.specs.Site.{site_rule, tables_of}
use Rattle.meaning.specs.Steps.{handle_row}
use Rattle.meaning.specs.declared.Address.{Address}
use Rattle.meaning.specs.declared.Device.{Device}
use Rattle.devices.specs.declared.Trial.{Trial}

-- the handle at k is the key's, and its device
abbrev pub is_handle : List ℕ → ℕ → ℕ → Bool
is_handle hs key k = eqb (get_or hs (2 * k) 0) key

abbrev pub device_of : List ℕ → ℕ → ℕ
device_of hs k = get_or hs (2 * k + 1) 0

abbrev pub trial : List ℕ → ℕ → Trial
trial hs k = record { at = k; device = device_of hs k }

unfoldable pub handle_from : List ℕ → ℕ → ℕ → Option Trial
handle_from hs key from = scan (is_handle hs key) (λ k. Some (trial hs k)) None (records 2 hs - from) from

-- the record at i, empty where the table has none
abbrev pub record_of : List ℕ → ℕ → ℕ → Device
record_of s n i = pick (ltb i n) (device_at s i) no_device

unfoldable pub devices_of : List ℕ → List Device
devices_of s = tab (record_of s (records 17 s)) 64

-- the table's own records alone
unfoldable pub devices_lent : List ℕ → List Device
devices_lent s = take (records 17 s) (devices_of s)

-- nothing in a site that breaks a rule
unfoldable pub found_at : List ℕ → ℕ → Address → Option ℕ
found_at s key p = pick (site_rule s) (handle_row (tables_of s).handles (tables_of s).devices key p) None
