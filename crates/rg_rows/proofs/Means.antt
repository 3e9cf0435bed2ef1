-- how meanings compose
use Rattle.std.proofs.Common.{◌≤◌, Bool, List}
use Rattle.rg_gates.specs.Circuit.{Circuit, variable_count}
use Rattle.rg_gates.specs.Extends.{Extends, GatesHold}
use Rattle.rg_gates.proofs.Growth.{Extends-refl, Extends-trans, older_hold, grows}
use Rattle.rg_rows.specs.Build.{Build, ◌>>=◌, give}

-- what is built, by its meaning: nothing that was there changes, and under all values of the circuit P holds of what is given
pub record Means {A : Type 0} (m : Build A) (P : List Bool → A → Type 0) : Type 0 where
  pub extends : (c : Circuit) → Extends c (m c).1
  pub value : (c : Circuit) (values : List Bool) → GatesHold (m c).1 values → P values (m c).0

pub give-means : {A : Type 0} (a : A) (P : List Bool → A → Type 0) → ((values : List Bool) → P values a) → Means (give a) P
give-means a P h = record { extends = λ c. Extends-refl c; value = λ c values hold. h values }

pub then-means : {A B : Type 0} (m : Build A) (f : A → Build B) (P : List Bool → A → Type 0) (Q : List Bool → B → Type 0) → Means m P → ((a : A) → Means (f a) (λ values b. P values a → Q values b)) → Means (m >>= f) Q
then-means m f P Q first second = record {
  extends = λ c. Extends-trans (first.extends c) ((second (m c).0).extends (m c).1);
  value = λ c values hold. (second (m c).0).value (m c).1 values hold (first.value c values (older_hold ((second (m c).0).extends (m c).1) hold));
}

pub weaker-means : {A : Type 0} (m : Build A) (P Q : List Bool → A → Type 0) → ((values : List Bool) (a : A) → P values a → Q values a) → Means m P → Means m Q
weaker-means m P Q h means = record { extends = means.extends; value = λ c values hold. h values (m c).0 (means.value c values hold) }

pub grows-means : {A : Type 0} (m : Build A) (P : List Bool → A → Type 0) → Means m P → (c : Circuit) → variable_count c ≤ variable_count (m c).1
grows-means m P means c = grows (means.extends c)
