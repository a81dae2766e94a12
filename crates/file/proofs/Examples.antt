-- Borders of the rules of a site file, computed; and so there is a site that keeps its rules: what the smallest file loads to. Assumes nothing.
use mathlib.Core.Path.{◌≡◌, refl}
use mathlib.Core.Bool.{true, false}
use mathlib.Core.List.{List, [], ◌∷◌, ◌++◌}
use Prim.Native.Nat.{ℕ}
use lib.ListN.{length, take, replicate}
use Rattle.meaning.specs.Octets.{octs, le_at}
use Rattle.meaning.specs.Records.{width_of, limit_of, least_of, count_right, start_by, device_at, handle_at, settings_right, device_right, clash, clashes, distinct, tables_rule, store_rule}
use Rattle.meaning.specs.File.{file_most, file_count, file_place, start_of, entry_right, contents_right, file_body, file_tables, file_store, file_rule}
use Rattle.meaning.specs.Site.{site_rule}
use Rattle.meaning.specs.Loading.{site_from}
use Rattle.meaning.proofs.Bridges.{from-rule}

-- an entry: kind, record length, count, offset
entry : ℕ → ℕ → ℕ → ℕ → List ℕ
entry kind width count at = kind ∷ width ∷ (octs 2 count ++ octs 2 at)

-- n devices and nothing else beside the settings
contents : ℕ → ℕ → List ℕ
contents n end =
    entry 1 35 1 42 ++ entry 2 17 n 77 ++ entry 3 5 0 end ++ entry 4 16 0 end ++ entry 5 22 0 end ++ entry 6 3 0 end ++ entry 7 2 0 end

smallest : List ℕ
smallest = contents 0 77 ++ replicate 35 0

-- a device: PAN 0, this short and this extended address, counter 0, not exempt
device : ℕ → ℕ → List ℕ
device short extended = octs 2 0 ++ octs 2 short ++ octs 8 extended ++ replicate 5 0

pair : List ℕ → List ℕ → List ℕ
pair a b = contents 2 111 ++ replicate 35 0 ++ a ++ b

record Borders : Type 0 where
  long : length smallest ≡ 77
  longest : file_most ≡ 3613
  kept : file_rule smallest ≡ true
  tail : file_rule (smallest ++ (0 ∷ [])) ≡ false
  cut : file_rule (take 76 smallest) ≡ false
  extended-twice : file_rule (pair (device 1 5) (device 2 5)) ≡ false
  short-twice : file_rule (pair (device 1 5) (device 1 6)) ≡ false
  no-short-twice : file_rule (pair (device 0xfffe 5) (device 0xfffe 6)) ≡ true

borders : Borders
unfolding smallest pair device contents entry octs le_at file_most file_rule contents_right entry_right file_count file_place start_of start_by width_of limit_of least_of count_right file_store file_tables store_rule tables_rule file_body settings_right device_right distinct clashes clash device_at handle_at
borders =
    record {
      long = refl;
      longest = refl;
      kept = refl;
      tail = refl;
      cut = refl;
      extended-twice = refl;
      short-twice = refl;
      no-short-twice = refl;
    }

-- a `requires` of a site that keeps its rules can be met
site-holds : site_rule (site_from smallest) ≡ true
site-holds = from-rule smallest borders.kept
