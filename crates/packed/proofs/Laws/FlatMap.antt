-- Laws of lists made of lists: over a list of made elements, over another such list, and element by element.
use mathlib.Core.Path.{◌≡◌, refl, ap, sym, ◌∙◌}
use mathlib.Core.Bool.{Bool, true, and-eq-true_iff}
use mathlib.Core.List.{List, [], ◌∷◌, ◌++◌, map, flat_map, append_assoc}
use Rattle.packed.specs.Every.{every}

pub flat_append : {B C : Type 0} (f : B → List C) (xs ys : List B) → flat_map f (xs ++ ys) ≡ flat_map f xs ++ flat_map f ys
unfolding flat_map
flat_append f [] ys = refl
flat_append {C = C} f (x ∷ xs) ys = ap (λ (l : List C). f x ++ l) (flat_append f xs ys) ∙ sym (append_assoc (f x) (flat_map f xs) (flat_map f ys))

pub flat_map_map : {A B C : Type 0} (f : B → List C) (g : A → B) (xs : List A) → flat_map f (map g xs) ≡ flat_map (λ (x : A). f (g x)) xs
unfolding flat_map
flat_map_map f g [] = refl
flat_map_map {C = C} f g (x ∷ xs) = ap (λ (l : List C). f (g x) ++ l) (flat_map_map f g xs)

pub flat_flat : {A B C : Type 0} (f : B → List C) (g : A → List B) (xs : List A) → flat_map f (flat_map g xs) ≡ flat_map (λ (x : A). flat_map f (g x)) xs
unfolding flat_map
flat_flat f g [] = refl
flat_flat {C = C} f g (x ∷ xs) = flat_append f (g x) (flat_map g xs) ∙ ap (λ (l : List C). flat_map f (g x) ++ l) (flat_flat f g xs)

-- what agrees on elements that pass a test agrees on a list of such
pub flat_same : {A B : Type 0} (p : A → Bool) (f g : A → List B) → ((x : A) → p x ≡ true → f x ≡ g x) → (xs : List A) → every p xs ≡ true → flat_map f xs ≡ flat_map g xs
unfolding flat_map every
flat_same p f g h [] e = refl
flat_same p f g h (x ∷ xs) e =
    let both = (and-eq-true_iff (p x) (every p xs)).0 e in
    λ i. h x both.0 i ++ flat_same p f g h xs both.1 i
