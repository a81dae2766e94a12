-- How answers and requests stand in octets at the boundary. Numbers stand least octet first. Assumes nothing: these are definitions.
-- address_packed    an address in 11 octets: mode 1, PAN 2, address 8
-- header_packed     a header in 29: kind, security, pending, request, compression, version, sequence, then destination and source
-- packed           an answer in 48: status 1, header 29, level 1, key mode 1, device 2, private length 2, start 2 and length 2 of the open payload, then 8 zeros
-- address_from, key_source_from, request_from   the same back for a request of 28 octets; octets past its end count as 0
use Rattle.meaning.specs.Receive.{Received}
use Rattle.std.specs.Prelude.{ℕ, ◌+◌, Bool, not, List, [], ◌∷◌, ◌++◌, get_or, eqb}
use Rattle.meaning.specs.Octets.{le_at, octs}
use Rattle.meaning.specs.declared.Address.{Address}
use Rattle.meaning.specs.declared.Header.{Header}
use Rattle.meaning.specs.declared.Request.{Request}

unfoldable pub address_packed : Address → List ℕ
address_packed a = a.mode ∷ (octs 2 a.pan ++ octs 8 a.address)

-- the seven fields before the addresses
unfoldable pub fields_packed : Header → List ℕ
fields_packed h =
    h.kind ∷ h.security ∷ h.pending ∷ h.request ∷ h.compression ∷ h.version ∷ h.sequence ∷ []

unfoldable pub header_packed : Header → List ℕ
header_packed h = fields_packed h ++ (address_packed h.destination ++ address_packed h.source)

-- what stands after the header
unfoldable pub rest_packed : Received → List ℕ
rest_packed r =
    r.level ∷ r.keymode ∷ (octs 2 r.device ++ (octs 2 r.private ++ (octs 2 r.start ++ (octs 2 r.len ++ octs 8 0))))

unfoldable pub packed : Received → List ℕ
packed r = r.status ∷ (header_packed r.header ++ rest_packed r)

-- ---- a request: kind 1, version 1, pending 1, request 1, sequence 1, destination 11, source mode 1, level 1, key mode 1, key source 8, key index 1
unfoldable pub address_from : List ℕ → ℕ → Address
address_from s at = record { mode = get_or s at 0; pan = le_at 2 s (at + 1); address = le_at 8 s (at + 3) }

unfoldable pub key_source_from : List ℕ → ℕ → List ℕ
key_source_from s at =
    get_or s at 0
    ∷ get_or s (at + 1) 0
    ∷ get_or s (at + 2) 0
    ∷ get_or s (at + 3) 0
    ∷ get_or s (at + 4) 0
    ∷ get_or s (at + 5) 0
    ∷ get_or s (at + 6) 0
    ∷ get_or s (at + 7) 0
    ∷ []

-- any octet but 0 says yes
unfoldable pub flag_from : List ℕ → ℕ → Bool
flag_from s at = not (eqb (get_or s at 0) 0)

unfoldable pub request_from : List ℕ → Request
request_from s =
    record {
      kind = get_or s 0 0;
      version = get_or s 1 0;
      pending = flag_from s 2;
      request = flag_from s 3;
      sequence = get_or s 4 0;
      destination = address_from s 5;
      srcmode = get_or s 16 0;
      level = get_or s 17 0;
      keymode = get_or s 18 0;
      keysource = key_source_from s 19;
      keyindex = get_or s 27 0;
    }
