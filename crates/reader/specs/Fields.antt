-- The fields of a header, one after the other. Assumes nothing: these are definitions.
-- field_at    the number in n octets at a place, and the place after it
-- raw_of      the fields that a reader reads in their order
-- fields_of   sequence number and addresses, as the meaning's `header_of` has them
use Rattle.std.specs.Prelude.{ℕ, ◌+◌, ◌-◌, ◌%◌, List, length, get_or, ltb, leb, eqb}
use Rattle.std.specs.Borrow.{Bor}
use Rattle.meaning.specs.Octets.{pick, le_at}
use Rattle.meaning.specs.Frame.{absent, address_len, address_at}
use Rattle.meaning.specs.declared.Address.{Address}
use Rattle.reader.specs.declared.Reader.{Reader}
use Rattle.reader.specs.declared.Field.{Field}
use Rattle.reader.specs.declared.Widths.{Widths}
use Rattle.reader.specs.declared.Raw.{Raw}
use Rattle.reader.specs.declared.Fields.{Fields}

-- the reader of a frame at a place
abbrev pub reader_at : Bor (List ℕ) → ℕ → Reader
reader_at s at = record { src = s; at = at }

-- the number in n octets at a place
unfoldable pub number_at : List ℕ → ℕ → ℕ → ℕ
number_at s at n = pick (eqb n 2) (le_at 2 s at) (pick (eqb n 8) (le_at 8 s at) (pick (eqb n 1) (le_at 1 s at) 0))

-- the place n octets on, the end at most, of m octets
unfoldable pub place_after : ℕ → ℕ → ℕ → ℕ
place_after m at n = pick (leb m at) at (pick (ltb (m - at) n) m (at + n))

unfoldable pub field_at : List ℕ → ℕ → ℕ → Field
field_at s at n = record { value = number_at s at n; next = place_after (length s) at n }

-- in their order: sequence number, destination PAN and address, source PAN and address
abbrev pub f₁ : List ℕ → Field
f₁ s = field_at s 2 1

abbrev pub f₂ : List ℕ → Widths → Field
f₂ s w = field_at s (f₁ s).next w.destinationpan

abbrev pub f₃ : List ℕ → Widths → Field
f₃ s w = field_at s (f₂ s w).next w.destination

abbrev pub f₄ : List ℕ → Widths → Field
f₄ s w = field_at s (f₃ s w).next w.sourcepan

abbrev pub f₅ : List ℕ → Widths → Field
f₅ s w = field_at s (f₄ s w).next w.source

unfoldable pub raw_of : List ℕ → Widths → Raw
raw_of s w =
    record {
      sequence = f₁ s;
      pan = field_at s (f₁ s).next 2;
      destinationpan = f₂ s w;
      destination = f₃ s w;
      sourcepan = f₄ s w;
      source = f₅ s w;
    }

-- the octets of a PAN, by its address's mode; compression drops it
unfoldable pub pan_len : ℕ → ℕ → ℕ
pan_len m c = pick (eqb m 0) 0 (pick (eqb c 1) 0 2)

-- the octets of each address field, by the modes and the compression
unfoldable pub widths_of : ℕ → ℕ → ℕ → Widths
widths_of d s c =
    record {
      destinationpan = pan_len d 0;
      destination = address_len d;
      sourcepan = pan_len s c;
      source = address_len s;
    }

unfoldable pub address_of : ℕ → ℕ → ℕ → Address
address_of m pan number = pick (eqb m 0) absent (record { mode = m; pan = pan % 65536; address = number })

-- destination PAN and address, by its mode
abbrev pub destination_span : ℕ → ℕ
destination_span d = pick (eqb d 0) 0 (2 + address_len d)

-- WHAT IS RIGHT: as the meaning reads them, from the modes and the compression
unfoldable pub fields_of : List ℕ → ℕ → ℕ → ℕ → Fields
fields_of h d s c =
    record {
      sequence = get_or h 2 0;
      destination = address_at h d 3 5;
      source =
          pick (eqb c 1)
          (address_at h s 3 (3 + destination_span d))
          (address_at h s (3 + destination_span d) (5 + destination_span d));
    }
