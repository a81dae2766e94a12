-- 'The site file', its records: seven kinds, the same in the file and in the loaded site, under the same rules. Assumes nothing: these are definitions.
-- settings .. handles         the kinds by name, counted from 0, and how many they are
-- width_of, limit_of, least_of   a kind's record length, largest and smallest count
-- count_right                  a count is in its kind's range
-- start_by                     where a kind's records start, behind those of the kinds before it
-- pan_id .. own_counter         fields of the settings
-- device_at .. handle_at        a record of a body, which is a list of whole records
-- Tables, Store               the records by kinds: judging sees no key octet and no counter
-- tables_rule, store_rule       the rules of all records
use Rattle.std.specs.Prelude.{ℕ, zero, suc, ◌+◌, ◌*◌, ◌/◌, ◌%◌, Bool, true, ◌&&◌, ◌||◌, not, List, [], ◌∷◌, length, get_or, leb, ltb, eqb}
use Rattle.meaning.specs.Octets.{pick, every, some, le_at, part, tab}
use Rattle.meaning.specs.declared.Device.{Device}

-- ---- the kinds
abbrev pub settings : ℕ
settings = 0

abbrev pub devices : ℕ
devices = 1

abbrev pub levels : ℕ
levels = 2

abbrev pub keys : ℕ
keys = 3

abbrev pub lookups : ℕ
lookups = 4

abbrev pub usages : ℕ
usages = 5

abbrev pub handles : ℕ
handles = 6

abbrev pub kinds : ℕ
kinds = 7

unfoldable pub width_of : ℕ → ℕ
width_of k = get_or (35 ∷ 17 ∷ 5 ∷ 16 ∷ 22 ∷ 3 ∷ 2 ∷ []) k 0

unfoldable pub limit_of : ℕ → ℕ
limit_of k = get_or (1 ∷ 64 ∷ 16 ∷ 16 ∷ 64 ∷ 64 ∷ 256 ∷ []) k 0

-- there is just one settings record
unfoldable pub least_of : ℕ → ℕ
least_of k = pick (eqb k settings) 1 0

unfoldable pub count_right : ℕ → ℕ → Bool
count_right k n = leb (least_of k) n && leb n (limit_of k)

-- where the records of kind k start, if those of the first kind start at a and there are n j of each kind j
unfoldable pub start_by : ℕ → (ℕ → ℕ) → ℕ → ℕ
start_by a n zero = a
start_by a n (suc k) = start_by a n k + width_of k * n k

-- how many records of w octets a body has
abbrev pub records : ℕ → List ℕ → ℕ
records w b = length b / w

-- ---- settings: PAN 2, short 2, extended 8, coordinator short 2, coordinator extended 8, default key source 8, flags 1, own counter 4
unfoldable pub pan_id : List ℕ → ℕ
pan_id t = le_at 2 t 0

unfoldable pub short_address : List ℕ → ℕ
short_address t = le_at 2 t 2

unfoldable pub extended_address : List ℕ → ℕ
extended_address t = le_at 8 t 4

unfoldable pub coordinator_short : List ℕ → ℕ
coordinator_short t = le_at 2 t 12

unfoldable pub coordinator_extended : List ℕ → ℕ
coordinator_extended t = le_at 8 t 14

unfoldable pub default_key_source : List ℕ → List ℕ
default_key_source t = part 22 8 t

unfoldable pub security_on : List ℕ → Bool
security_on t = eqb (get_or t 30 0 % 2) 1

unfoldable pub is_coordinator : List ℕ → Bool
is_coordinator t = eqb (get_or t 30 0 / 2 % 2) 1

-- the own counter's place
abbrev pub own_at : ℕ
own_at = 31

unfoldable pub own_counter : List ℕ → ℕ
own_counter t = le_at 4 t own_at

-- ---- devices: PAN 2, short 2, extended 8, counter 4, exempt 1
unfoldable pub device_at : List ℕ → ℕ → Device
device_at b d =
    record {
      pan = le_at 2 b (17 * d);
      short = le_at 2 b (17 * d + 2);
      extended = le_at 8 b (17 * d + 4);
      exempt = get_or b (17 * d + 16) 0;
    }

abbrev pub no_device : Device
no_device = record { pan = 0; short = 0; extended = 0; exempt = 0 }

unfoldable pub counter_at : List ℕ → ℕ → ℕ
counter_at b d = le_at 4 b (17 * d + 12)

-- ---- keys: 16 octets
unfoldable pub key_at : List ℕ → ℕ → List ℕ
key_at b k = part (16 * k) 16 b

-- ---- handles: key, device
pub record Handle : Type 0 where
  pub key : ℕ
  pub device : ℕ

unfoldable pub handle_at : List ℕ → ℕ → Handle
handle_at b j = record { key = get_or b (2 * j) 0; device = get_or b (2 * j + 1) 0 }

abbrev pub no_handle : Handle
no_handle = record { key = 0; device = 0 }

-- ---- the records by kinds
-- without key octets and counters
pub record Tables : Type 0 where
  pub settings : List ℕ
  pub devices : List Device
  pub levels : List ℕ
  pub lookups : List ℕ
  pub usages : List ℕ
  pub handles : List Handle

pub record Store : Type 0 where
  pub tables : Tables
  pub keys : List ℕ
  pub counters : List ℕ
  pub own : ℕ

-- the records of a body, one by one
abbrev pub devices_in : List ℕ → List Device
devices_in b = tab (device_at b) (records 17 b)

abbrev pub counters_in : List ℕ → List ℕ
counters_in b = tab (counter_at b) (records 17 b)

abbrev pub handles_in : List ℕ → List Handle
handles_in b = tab (handle_at b) (records 2 b)

-- of the bodies of settings (without the own counter), devices, levels, lookups, usages and handles
abbrev pub tables_by : List ℕ → List ℕ → List ℕ → List ℕ → List ℕ → List ℕ → Tables
tables_by t d l k u h =
    record { settings = t; devices = devices_in d; levels = l; lookups = k; usages = u; handles = handles_in h }

-- t are the settings without the own counter, b k is the body of kind k: the same for file and site
abbrev pub tables_in : List ℕ → (ℕ → List ℕ) → Tables
tables_in t b = tables_by t (b devices) (b levels) (b lookups) (b usages) (b handles)

abbrev pub store_in : Tables → (ℕ → List ℕ) → Store
store_in t b = record { tables = t; keys = b keys; counters = counters_in (b devices); own = own_counter (b settings) }

-- ---- the rules of each record; nk keys, nd devices
-- flags: security, coordinator, and the rest zero
unfoldable pub settings_right : List ℕ → Bool
settings_right t = ltb (get_or t 30 0) 4

unfoldable pub device_right : Device → Bool
device_right x = leb x.exempt 1

-- levels: type, command, minimum, override, allowed set
unfoldable pub level_right : List ℕ → ℕ → Bool
level_right b i = leb (get_or b (5 * i) 0) 3 && (leb (get_or b (5 * i + 2) 0) 7 && leb (get_or b (5 * i + 3) 0) 1)

-- lookups: key, mode, index, source 8, peer mode, PAN 2, address 8
unfoldable pub lookup_right : ℕ → List ℕ → ℕ → Bool
lookup_right nk b i =
    ltb (get_or b (22 * i) 0) nk
    && (leb (get_or b (22 * i + 1) 0) 3
    && (not (eqb (get_or b (22 * i + 1) 0) 0) || (eqb (get_or b (22 * i + 11) 0) 2 || eqb (get_or b (22 * i + 11) 0) 3)))

-- usages: key, type, command
unfoldable pub usage_right : ℕ → List ℕ → ℕ → Bool
usage_right nk b i = ltb (get_or b (3 * i) 0) nk && leb (get_or b (3 * i + 1) 0) 3

unfoldable pub handle_right : ℕ → ℕ → Handle → Bool
handle_right nk nd h = ltb h.key nk && ltb h.device nd

-- no two devices share an extended address, nor PAN and short where the short is below 0xfffe
unfoldable pub clash : Device → Device → Bool
clash x y =
    eqb x.extended y.extended
    || (eqb x.short y.short && (eqb x.pan y.pan && ltb x.short 0xfffe))

-- device i has a clash with one before it
unfoldable pub clashes : List Device → ℕ → Bool
clashes ds i = some (λ j. clash (get_or ds i no_device) (get_or ds j no_device)) i

unfoldable pub distinct : List Device → Bool
distinct ds = not (some (clashes ds) (length ds))

-- ---- the rules of all records
abbrev pub all_of : {A : Type 0} → (A → Bool) → List A → Bool
all_of p [] = true
all_of p (x ∷ xs) = p x && all_of p xs

-- with nk keys
unfoldable pub tables_rule : ℕ → Tables → Bool
tables_rule nk t =
    settings_right t.settings
    && (all_of device_right t.devices
    && (every (level_right t.levels) (records 5 t.levels)
    && (every (lookup_right nk t.lookups) (records 22 t.lookups)
    && (every (usage_right nk t.usages) (records 3 t.usages)
    && (all_of (handle_right nk (length t.devices)) t.handles && distinct t.devices)))))

unfoldable pub store_rule : Store → Bool
store_rule σ = tables_rule (records 16 σ.keys) σ.tables
