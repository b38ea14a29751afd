-- The exits of a loop that reads several things.
use Rattle.std.proofs.Common.{◌≡◌, ℕ, ◌-◌, ◌<◌, List}
use Rattle.cs_base.specs.Fields.{Found, many_at}
use Rattle.cs_base.proofs.Many.{with_front, stops}
use Rattle.cs_tx_value.specs.declared.form.FormError.{FormError}
use Rattle.cs_tx_value.specs.declared.form.FormError.TheVariants as errors
use Rattle.cs_tx_value.specs.Reading.{Misses}

pub ends : {X : Type 0} (e : FormError) (read : List ℕ → Found X) (front : List X) (count i : ℕ) (bytes : List ℕ) (total : Found (List X)) → i < count → Misses e (read bytes)
    → with_front front (many_at read (count - i) bytes) ≡ total → Misses e total
ends errors.Memory read front count i bytes total lt h so_far = tt
ends errors.BadForm read front count i bytes total lt h so_far = stops read front count i bytes total lt h so_far
ends errors.TooLong read front count i bytes total lt h so_far = h
