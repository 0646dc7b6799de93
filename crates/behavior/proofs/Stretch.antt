-- Steps put one after another, and what they give of a simulation.
use Rattle.std.proofs.Common.{◌≡◌, ℕ, suc, ◌+◌, ◌<◌, ◌≤◌, sym, ◌∙◌, ap, subst, inl, inr, ◌⊎◌, arith}
use Rattle.behavior.specs.Moment.{Agrees, IsLeft, IsGoing}
use Rattle.behavior.specs.System.{iter, System, IsGradual}
use Rattle.behavior.specs.Simulation.{Comes, Lands, Met, Follows, Starts, Spots}
use Rattle.behavior.proofs.Between.{iter_add}

module _ {T : Type 0} (g : T → T) where
  -- no step
  pub comes_none : (b c : T) → b ≡ c → Comes g 0 0 b c
  comes_none b c e = record { count = 0; low = omega arith; high = omega arith; arrives = e }

  -- one step
  pub comes_one : (b c : T) → g b ≡ c → Comes g 1 1 b c
  comes_one b c e = record { count = 1; low = omega arith; high = omega arith; arrives = e }

  -- one stretch after another: their bounds add up
  pub comes_join : (least most least2 most2 : ℕ) (b c d : T) → Comes g least most b c → Comes g least2 most2 c d → Comes g (least + least2) (most + most2) b d
  comes_join least most least2 most2 b c d x y = record {
    count = x.count + y.count;
    low = let p = x.low in let q = y.low in omega arith;
    high = let p = x.high in let q = y.high in omega arith;
    arrives = sym (iter_add g x.count y.count b) ∙ ap (iter g y.count) x.arrives ∙ y.arrives;
  }

  -- one step in front of a stretch
  pub comes_step : (least most : ℕ) (b c d : T) → g b ≡ c → Comes g least most c d → Comes g (suc least) (suc most) b d
  comes_step least most b c d e x = record {
    count = suc x.count;
    low = let p = x.low in omega arith;
    high = let p = x.high in omega arith;
    arrives = ap (iter g x.count) e ∙ x.arrives;
  }

  -- wider bounds hold too
  pub comes_wider : (least most least2 most2 : ℕ) (b c : T) → least2 ≤ least → most ≤ most2 → Comes g least most b c → Comes g least2 most2 b c
  comes_wider least most least2 most2 b c low high x = record {
    count = x.count;
    low = let p = x.low in omega arith;
    high = let p = x.high in omega arith;
    arrives = x.arrives;
  }

module _ {S T : Type 0} (A : System S) (B : System T) (R : S → T → Type 0) (weight : S → ℕ) (cost : ℕ) where
  -- one or more steps meet a step
  pub met_by : (a a2 : S) (b c : T) → Comes B.step 1 cost b c → Lands A B R a2 c → Met A B R weight cost a a2 b
  met_by a a2 b c x l = record {
    count = x.count;
    within = x.high;
    moves = inl x.low;
    lands = subst (Lands A B R a2) (sym x.arrives) l;
  }

  -- no step meets a step at which the weight falls
  pub met_by_none : (a a2 : S) (b : T) → weight a2 < weight a → Lands A B R a2 b → Met A B R weight cost a a2 b
  met_by_none a a2 b falls l = record { count = 0; within = omega arith; moves = inr falls; lands = l }

  -- a start that comes to related states
  pub starts_by : (begin : ℕ) (a : S) (b c : T) → Agrees (A.moment a) (B.moment b) → Comes B.step 0 begin b c → Lands A B R a c → Starts A B R begin a b
  starts_by begin a b c shown x l = record {
    shown = shown;
    count = x.count;
    within = x.high;
    lands = subst (Lands A B R a) (sym x.arrives) l;
  }

-- a simulation by an equation: the second state is a function of the first one and a free rest
pub spots_follow : {S T : Type 0} (A : System S) (B : System T) (Rest : S → Type 0) (spot : (a : S) → Rest a → T) (weight : S → ℕ) (cost : ℕ) → IsGradual A → ((a : S) (rest : Rest a) → Agrees (A.moment a) (B.moment (spot a rest))) → ((a : S) (rest : Rest a) → IsGoing (A.moment a) → IsLeft (A.moment (A.step a)) ⊎ Met A B (Spots Rest spot) weight cost a (A.step a) (spot a rest)) → Follows A B (Spots Rest spot) weight cost
spots_follow A B Rest spot weight cost gradual shown step = record {
  gradual = gradual;
  shown = λ a b r. subst (λ t. Agrees (A.moment a) (B.moment t)) (sym r.1) (shown a r.0);
  step = λ a b r goes. subst (λ t. IsLeft (A.moment (A.step a)) ⊎ Met A B (Spots Rest spot) weight cost a (A.step a) t) (sym r.1) (step a r.0 goes);
}

-- a simulation in which each step is met by one step
pub lockstep : {S T : Type 0} (A : System S) (B : System T) (R : S → T → Type 0) → IsGradual A → ((a : S) (b : T) → R a b → Agrees (A.moment a) (B.moment b)) → ((a : S) (b : T) → R a b → IsGoing (A.moment a) → IsLeft (A.moment (A.step a)) ⊎ Lands A B R (A.step a) (B.step b)) → Follows A B R (λ _. 0) 1
lockstep A B R gradual shown step = record {
  gradual = gradual;
  shown = shown;
  step = λ a b r goes. elim (step a b r goes) [
    | inl l ↦ inl l
    | inr l ↦ inr (record { count = 1; within = omega arith; moves = inl (omega arith); lands = l })
  ];
}
