-- The numbers of the refusals.
use Rattle.std.specs.Prelude.{ℕ}
use Rattle.settings.specs.declared.SettingsRefusal.{SettingsRefusal}
use Rattle.settings.specs.declared.SettingsRefusal.TheVariants.{Malformed, Missing, ValueLength, VersionFalls, Full}

abbrev pub settings_refusal_number : SettingsRefusal → ℕ
settings_refusal_number Malformed = 41
settings_refusal_number Missing = 42
settings_refusal_number ValueLength = 43
settings_refusal_number VersionFalls = 44
settings_refusal_number Full = 45
