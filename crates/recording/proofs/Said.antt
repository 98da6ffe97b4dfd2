-- What callers use of a header that was read.
use Prim.Native.Nat.{ℕ}
use mathlib.Core.Path.{◌≡◌, sym, ap, ◌∙◌}
use mathlib.Core.Bool.{true, false, not, true≢false, false≢true}
use mathlib.Core.List.{List}
use Rattle.std.specs.Prelude.{Option, Some, None, is_some}
use Rattle.laws.proofs.Picked.{picked_first, picked_second}
use Rattle.laws.proofs.Tests.{neither}
use Rattle.config.specs.Config.{config_broken}
use Rattle.recording.specs.Settings.{framed, config_of, settings_bad, settings_of, said_of}
use Rattle.recording.specs.declared.settings.Settings.{Settings}

abbrev settings_or : Settings → Option Settings → Settings
settings_or d (Some x) = x
settings_or d None = d

-- what a header says, taken apart: it is bad, or it is not and says what the definition has
module _ (s : List ℕ) {o : Option Settings} (e : o ≡ settings_of s) where
  pub said_bad : o ≡ None → settings_bad s ≡ true
  unfolding settings_of
  said_bad is = (picked_first (settings_bad s) (λ q. true≢false (ap is_some q)) (sym e ∙ is)).0

  pub said_good : {x : Settings} → o ≡ Some x → (settings_bad s ≡ false) × (x ≡ said_of s)
  unfolding settings_of
  said_good is =
      let p = picked_second (settings_bad s) (λ q. false≢true (ap is_some q)) (sym e ∙ is) in
      (p.0, sym (ap (settings_or (said_of s)) p.1))

  -- and then 21 does not refuse its configuration
  pub said_sound : {x : Settings} → o ≡ Some x → config_broken x.config ≡ false
  unfolding settings_bad
  said_sound is =
      let said = said_good is in
      rw (said.1, (neither (not (framed s)) (config_broken (config_of s)) said.0).1)
