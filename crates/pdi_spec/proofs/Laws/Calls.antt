-- What a call of a function with no `requires` needs. Assumes nothing.
pub nothing {ℓ κ} : {A : Type ℓ} {B : Type κ} → A → B → Unit {0}
nothing c κs = tt
