-- The items of the body are harmless: they change no register that the loop or a call needs, store to the data alone, and skip one word at most.
use Rattle.std.proofs.Common.{◌≡◌, ◌≢◌, ◌⊎◌, inl, inr, ℕ, ◌+◌, ◌-◌, ◌%◌, ◌<◌, ◌≤◌, ℤ, pos, List, slice_index_or, refl, sym, subst, arith}
use Rattle.std.specs.List.{AllByRecursion}
use Rattle.rv_base.specs.declared.instr.Op.TheVariants as op
use Rattle.rv_base.specs.declared.instr.LoadKind.{LoadKind}
use Rattle.rv_base.specs.declared.instr.LoadKind.TheVariants as load
use Rattle.rv_base.specs.declared.instr.StoreKind.{StoreKind}
use Rattle.rv_base.specs.declared.instr.StoreKind.TheVariants as store
use Rattle.rv_base.specs.declared.instr.Instr.{Instr}
use Rattle.rv_base.specs.declared.instr.Instr.TheVariants as instr
use Rattle.rv_spec.specs.Step.{load_width, store_width}
use Rattle.rv_gen.specs.Draws.{draw, ◌>>=◌}
use Rattle.rv_gen.specs.Programs as gen
use Rattle.rv_gen.specs.Programs.{loads, stores, pool, small, offset, register_item, immediate_item, upper_item, load_item, store_item, branch_item, call_item, items, word, filled}
use Rattle.rv_gen.proofs.Drawn.{draw-below, items-hold, filled-hold}

-- none of x8, the base of the data, x9, the count of rounds, x11, the buffer of a call, and x17, its number
abbrev pub IsFree : ℕ → Type 0
IsFree r = (r ≢ 8) × (r ≢ 9) × (r ≢ 11) × (r ≢ 17)

-- a place in the data that is aligned
pub record IsInData (width base : ℕ) (offset : ℤ) : Type 0 where
  pub base_is : base ≡ 8
  pub place : ℕ
  pub offset_is : offset ≡ pos place
  pub within : place < 2048
  pub aligned : place % width ≡ 0

-- a number into x17 that is no exit, and an address in the data into x11
pub record NamesCall (i : Instr) : Type 0 where
  pub number : ℕ
  pub small : number ≤ 64
  pub is : i ≡ gen.li 17 (pos number)

pub record NamesBuffer (i : Instr) : Type 0 where
  pub place : ℕ
  pub within : place < 2048
  pub is : i ≡ instr.OpImm op.Add 11 8 (pos place)

abbrev pub IsHarmless : Instr → Type 0
IsHarmless (instr.Lui rd imm) = IsFree rd
IsHarmless (instr.Op o rd rs1 rs2) = IsFree rd
IsHarmless (instr.OpImm o rd rs1 imm) = IsFree rd ⊎ (NamesCall (instr.OpImm o rd rs1 imm) ⊎ NamesBuffer (instr.OpImm o rd rs1 imm))
IsHarmless (instr.Load kind rd rs1 imm) = IsFree rd × IsInData (load_width kind) rs1 imm
IsHarmless (instr.Store kind rs1 rs2 imm) = IsInData (store_width kind) rs1 imm
IsHarmless (instr.Branch c rs1 rs2 off) = off ≡ pos 8
IsHarmless instr.Ecall = Unit {0}
IsHarmless i = ⊥

abbrev pub AreHarmless : List Instr → Type 0
AreHarmless is = AllByRecursion IsHarmless is

-- a width of loads and stores
abbrev pub IsWidth : ℕ → Type 0
IsWidth width = (width ≡ 1) ⊎ ((width ≡ 2) ⊎ (width ≡ 4))

-- ---- what is drawn

free : (r : ℕ) → 18 ≤ r → IsFree r
free r h = ((λ e. omega arith), (λ e. omega arith), (λ e. omega arith), (λ e. omega arith))

pub x10-free : IsFree 10
x10-free = ((λ e. omega arith), (λ e. omega arith), (λ e. omega arith), (λ e. omega arith))

x12-free : IsFree 12
x12-free = ((λ e. omega arith), (λ e. omega arith), (λ e. omega arith), (λ e. omega arith))

pool-free : (s : ℕ) → IsFree (pool s).0
unfolding pool ◌>>=◌
pool-free s = free (18 + (draw 10 s).0) (omega arith)

lowered : (o width : ℕ) → IsWidth width → (o - o % width) % width ≡ 0
lowered o width (inl e) = subst (λ w. (o - o % w) % w ≡ 0) (sym e) (omega arith)
lowered o width (inr (inl e)) = subst (λ w. (o - o % w) % w ≡ 0) (sym e) (omega arith)
lowered o width (inr (inr e)) = subst (λ w. (o - o % w) % w ≡ 0) (sym e) (omega arith)

offset-within : (width s : ℕ) → IsWidth width → IsInData width 8 (offset width s).0
unfolding offset ◌>>=◌
offset-within width s h =
    let o = (draw 2048 s).0 in
    let below : o < 2048 = draw-below 2048 s (omega arith) in
    record { base_is = refl; place = o - o % width; offset_is = refl; within = omega arith; aligned = lowered o width h }

-- ---- items

register-harmless : (s : ℕ) → IsHarmless (register_item s).0
unfolding register_item ◌>>=◌
register-harmless s = pool-free (draw 18 s).1

immediate-harmless : (s : ℕ) → IsHarmless (immediate_item s).0
unfolding immediate_item ◌>>=◌
immediate-harmless s = inl (pool-free (draw 6 s).1)

upper-harmless : (s : ℕ) → IsHarmless (upper_item s).0
unfolding upper_item ◌>>=◌
upper-harmless s = pool-free s

load-widths : (kind : LoadKind) → gen.load_width kind ≡ load_width kind
load-widths load.B = refl
load-widths load.H = refl
load-widths load.W = refl
load-widths load.Bu = refl
load-widths load.Hu = refl

store-widths : (kind : StoreKind) → gen.store_width kind ≡ store_width kind
store-widths store.B = refl
store-widths store.H = refl
store-widths store.W = refl

pub width-of-load : (kind : LoadKind) → IsWidth (load_width kind)
width-of-load load.B = inl refl
width-of-load load.H = inr (inl refl)
width-of-load load.W = inr (inr refl)
width-of-load load.Bu = inl refl
width-of-load load.Hu = inr (inl refl)

pub width-of-store : (kind : StoreKind) → IsWidth (store_width kind)
width-of-store store.B = inl refl
width-of-store store.H = inr (inl refl)
width-of-store store.W = inr (inr refl)

load-harmless : (s : ℕ) → IsHarmless (load_item s).0
unfolding load_item ◌>>=◌
load-harmless s =
    let kind = slice_index_or loads (draw 5 s).0 load.B in
    let t = (draw 5 s).1 in
    let u = (pool t).1 in
    (pool-free t, subst (λ width. IsInData (load_width kind) 8 (offset width u).0) (sym (load-widths kind)) (offset-within (load_width kind) u (width-of-load kind)))

store-harmless : (s : ℕ) → IsHarmless (store_item s).0
unfolding store_item ◌>>=◌
store-harmless s =
    let kind = slice_index_or stores (draw 3 s).0 store.B in
    let u = (pool (draw 3 s).1).1 in
    subst (λ width. IsInData (store_width kind) 8 (offset width u).0) (sym (store-widths kind)) (offset-within (store_width kind) u (width-of-store kind))

branch-harmless : (s : ℕ) → IsHarmless (branch_item s).0
unfolding branch_item ◌>>=◌
branch-harmless s = refl

call-harmless : (s : ℕ) → AreHarmless (call_item s).0
unfolding call_item ◌>>=◌
call-harmless s =
    let o = (draw 2 s).0 in
    let f = (draw 2048 (draw 2 s).1).0 in
    let below : o < 2 = draw-below 2 s (omega arith) in
    let within : f < 2048 = draw-below 2048 (draw 2 s).1 (omega arith) in
    let named : NamesCall (gen.li 17 (pos (63 + o))) = record { number = 63 + o; small = omega arith; is = refl } in
    let buffer : NamesBuffer (instr.OpImm op.Add 11 8 (pos f)) = record { place = f; within = within; is = refl } in
    (inr (inl named), (inl x10-free, (inr (inr buffer), (inl x12-free, (tt, tt)))))

-- the items of the body
pub items-harmless : (n s : ℕ) → AreHarmless (items n s).0
items-harmless = items-hold IsHarmless (record {
  register = register-harmless;
  immediate = immediate-harmless;
  upper = upper-harmless;
  load = load-harmless;
  store = store-harmless;
  branch = branch-harmless;
  call = call-harmless;
})

-- the words that registers from x18 on take
word-harmless : (r s : ℕ) → 18 ≤ r → AreHarmless (word r s).0
unfolding word ◌>>=◌
word-harmless r s h = (free r h, (inl (free r h), tt))

pub filled-harmless : (n r s : ℕ) → 18 ≤ r → AreHarmless (filled n r s).0
filled-harmless n r s h = filled-hold IsHarmless n r s (λ q t low high. word-harmless q t (omega (arith, h)))
