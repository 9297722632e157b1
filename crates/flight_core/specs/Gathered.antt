-- Output that is collected for a device. This project's own.
use Rattle.std.specs.Prelude.{◌≡◌, ◌⊎◌, ℕ, ◌<◌, true, List, [], ◌++◌, length, drop, refl, Option, Some, None, Result, Ok, Err}
use Rattle.std.specs.Option.{ForSome}
use Rattle.std.proofs.Common.{ap, append-nil}
use Rattle.std.specs.Io.KnownBytes.{Keeps, append_known}
use Rattle.lc_model.specs.Device.{Sink, NoWriteRetried}
use Rattle.lc_model.specs.declared.device.DeviceFault.{DeviceFault}

-- The most bytes collected.
abbrev pub most_gathered : ℕ
most_gathered = 65536

-- As a sink: the bytes that the device has taken, then those collected.
abbrev pub with_held : Sink → List ℕ → Sink
with_held device held = record { gained = append_known device.gained held; failed = device.failed; retried = device.retried }

-- With nothing collected it is its device.
pub none_held : (device : Sink) → with_held device [] ≡ device
none_held device = λ i. record { gained = none_behind device.gained i; failed = device.failed; retried = device.retried }
  where
    none_behind : (known : Option (List ℕ)) → append_known known [] ≡ known
    none_behind None = refl
    none_behind (Some xs) = ap Some (append-nil xs)

-- The bytes after these first ones.
abbrev pub behind : List ℕ → Option (List ℕ) → List ℕ
behind first None = []
behind first (Some bytes) = drop (length first) bytes

-- The device's bytes begin with those that it had taken before, if these are known.
abbrev pub HasGrown : Option (List ℕ) → Option (List ℕ) → Type 0
HasGrown had now = ForSome had (λ bytes. now ≡ Some (bytes ++ behind bytes now))

-- Nothing is collected, or the device's bytes begin with those that it had taken before.
abbrev pub MayHold : Option (List ℕ) → Option (List ℕ) → List ℕ → Type 0
MayHold had now held = (held ≡ []) ⊎ HasGrown had now

module _ (before after : Sink) (held left : List ℕ) where
  -- The device has taken all collected bytes.
  pub record IsGiven : Type 0 where
    pub keeps : Keeps (with_held before held).gained (with_held after left).gained
    pub none_left : left ≡ []
    pub fine : after.failed ≡ before.failed
    pub not_retried : NoWriteRetried before after

  -- The device failed after a part of the collected bytes; the rest stays collected.
  pub record IsStuck : Type 0 where
    pub keeps : Keeps (with_held before held).gained (with_held after left).gained
    pub some_left : 0 < length left
    pub failed : after.failed ≡ true
    pub not_retried : NoWriteRetried before after

  -- `IsGiven` if no write failed, else `IsStuck`.
  abbrev pub Gives : Result (Unit {0}) DeviceFault → Type 0
  Gives (Ok none) = IsGiven
  Gives (Err fault) = IsStuck
