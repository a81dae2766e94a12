-- Demand 2's round trip, as a statement: a built frame, received, gives back its header and payloads. Assumes nothing: these are definitions.
-- Octets, Ranged   what the machine's types say of lent octets and of a request
-- Sent             a build that succeeds: site s, request q, open payload o, private payload p, output out
-- frame_sent        its frame
-- Well-formed      no check before filter and policies strikes it
-- Taken            site r, with output out', admits it; if secured, by the sender's key, address and counter
-- Comes-back       the one outcome of receiving it
use Rattle.std.specs.Prelude.{ℕ, suc, ◌+◌, ◌≤◌, ◌<◌, ◌^◌, ◌≡◌, true, List, [], length, get_or, take, eqb, Option, Some, None, Ok, Err}
use Rattle.meaning.specs.Octets.{pick, part, beside}
use Rattle.meaning.specs.Records.{extended_address, Tables, Store, key_at, no_device}
use Rattle.meaning.specs.Site.{site_rule, settings_of, tables_of, store_of}
use Rattle.meaning.specs.Filter.{cause}
use Rattle.meaning.specs.Steps.{peer_of, key_row, key_of}
use Rattle.meaning.specs.Receive.{Received, Judged, check, split, on_security, judged, Raise, keep, raise, stored, raised_in, outcome, received}
use Rattle.meaning.specs.Build.{fitted, header_by, head_octets, aux_octets, built}
use Rattle.meaning.specs.declared.Refusal.TheVariants.{Filtered}
use Rattle.meaning.specs.declared.Header.{Header}
use Rattle.meaning.specs.declared.Passed.TheVariants.{Plain, Secure}
use Rattle.meaning.specs.declared.Request.{Request}

-- every octet is below 256: what u8 means
unfoldable pub Octets : List ℕ → Type 0
Octets s = (i : ℕ) → get_or s i 0 < 256

-- the fields of a request have their widths: what u16, u64 and [u8; 8] mean
pub record Ranged (q : Request) : Type 0 where
  pub pan : q.destination.pan < 256 ^ 2
  pub address : q.destination.address < 256 ^ 8
  pub keysource : length q.keysource ≡ 8

-- ---- the sender
pub record Sent (s : List ℕ) (q : Request) (o p out : List ℕ) : Type 0 where
  pub octets : Octets s
  pub ranged : Ranged q
  pub success : (built s q o p out).answer.status ≡ 0

unfoldable pub frame_sent : List ℕ → Request → List ℕ → List ℕ → List ℕ → List ℕ
frame_sent s q o p out = take (built s q o p out).answer.len (built s q o p out).out

-- the key octets of a lookup record
unfoldable pub key_in : Store → Option ℕ → List ℕ
key_in σ None = []
key_in σ (Some i) = key_at σ.keys (key_of σ.tables.lookups i)

-- the key octets that the sender selects
unfoldable pub key_sent : Store → Request → List ℕ
key_sent σ q =
    key_in σ
    (key_row σ.tables.lookups σ.tables.settings q.keymode q.keyindex q.keysource
    (peer_of σ.tables.settings (fitted q.destination)))

-- ---- the receiver
-- what filter and policies say; an acknowledgment passes with the filter
unfoldable pub admission : Tables → Header → List ℕ → List ℕ → Judged
admission t h x o =
    check (eqb (cause t.settings h) 0) Filtered (split (eqb h.kind 2) (Ok Plain) (on_security t h x o))

-- neither 3, 4, 5 nor 7 is ever the answer to a built frame: filter and policies decide
pub record Well-formed (s : List ℕ) (q : Request) (o p out : List ℕ) : Type 0 where
  pub least : 5 ≤ length (frame_sent s q o p out)
  pub most : length (frame_sent s q o p out) ≤ 127
  pub decided : (t : Tables) → judged t (frame_sent s q o p out) ≡ admission t (header_by (settings_of s) q) (aux_octets q (store_of s).own) o

-- key k and device d are the sender's
pub record Same (σ τ : Store) (q : Request) (k j d : ℕ) : Type 0 where
  pub key : key_at τ.keys k ≡ key_sent σ q
  pub extended : (get_or τ.tables.devices d no_device).extended ≡ extended_address σ.tables.settings
  pub counter : stored τ.counters j d ≤ σ.own

-- admitted: without security, or by the sender's key and device
pub data Agreed (σ τ : Store) (q : Request) : Judged → Type 0 where
  plainly : Agreed σ τ q (Ok Plain)
  securely : {k j d : ℕ} → Same σ τ q k j d → Agreed σ τ q (Ok (Secure k j d))

pub record Taken (s : List ℕ) (q : Request) (o r out' : List ℕ) (g : Judged) : Type 0 where
  pub site : site_rule r ≡ true
  pub room : 127 ≤ length out'
  pub admitted : admission (tables_of r) (header_by (settings_of s) q) (aux_octets q (store_of s).own) o ≡ g
  pub agreed : Agreed (store_of s) (store_of r) q g

-- ---- what comes back
-- devices count from 1
unfoldable pub device_of : Judged → ℕ
device_of (Err r) = 0
device_of (Ok Plain) = 0
device_of (Ok (Secure k j d)) = suc d

-- the device's counter becomes the frame's plus 1
unfoldable pub raise_of : ℕ → Judged → Raise
raise_of c (Err r) = keep
raise_of c (Ok Plain) = keep
raise_of c (Ok (Secure k j d)) = raise j d c

unfoldable pub report_of : Store → Request → List ℕ → List ℕ → Judged → Received
report_of σ q o p g =
    record {
      status = 0;
      header = header_by σ.tables.settings q;
      level = q.level;
      keymode = pick (eqb q.level 0) 0 q.keymode;
      device = device_of g;
      private = length p;
      start = length (head_octets (header_by σ.tables.settings q)) + length (aux_octets q σ.own);
      len = length o;
    }

pub record Comes-back (s : List ℕ) (q : Request) (o p out r out' : List ℕ) (g : Judged) : Type 0 where
  -- header and private payload, and nothing else changes but the device's counter
  pub whole : received r (frame_sent s q o p out) out'
      ≡ outcome (report_of (store_of s) q o p g) (raised_in (raise_of (store_of s).own g) r) (beside p out')
  -- the open payload, as a part of the frame
  pub opens : part (report_of (store_of s) q o p g).start (report_of (store_of s) q o p g).len (frame_sent s q o p out) ≡ o
