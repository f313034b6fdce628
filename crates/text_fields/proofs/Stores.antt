-- Laws of numbers that fit.
use Rattle.std.proofs.Common.{ℕ, ◌≤◌, arith, w16, Fits}

pub fits_row : {t : ℕ} → t ≤ 511 → Fits w16 t
fits_row h = record { fits = omega arith }
