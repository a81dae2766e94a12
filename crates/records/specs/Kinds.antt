-- The kinds of records by their numbers, which the meaning's definitions take. Assumes nothing: these are definitions.
-- number_of   a kind's number
use Rattle.std.specs.Prelude.{ℕ}
use Rattle.meaning.specs.Records.{settings, devices, levels, keys, lookups, usages, handles}
use Rattle.records.specs.declared.Kind.{Kind}
use Rattle.records.specs.declared.Kind.TheVariants.{Settings, Devices, Levels, Keys, Lookups, Usages, Handles}

abbrev pub number_of : Kind → ℕ
number_of Settings = settings
number_of Devices = devices
number_of Levels = levels
number_of Keys = keys
number_of Lookups = lookups
number_of Usages = usages
number_of Handles = handles
