-- The parameters of an export beside its handle: what their types own, the machine value that stands for each, and what is said of each at the return.
use Rattle.std.proofs.Common.{ℕ, ◌+◌, List, [], ◌∷◌, length}
use seplogic.Ra.Ura.{Ura}
use base.Fml.{Fml, Lft, fsep, ftrue}
use lib.Dec.{T, eqb_refl}
use mir.Syntax.{Lifetime, Ty, Width, erased, imm, ty_bool, ty_int, ty_ref}
use mir.Val.{Val, WT, bytes, has_ty, vbool, vint, vptr}
use types.Logic.{Logic}
use denote.Builtin.{u8}
use denote.Exit.{left, yes}
use denote.Laws.{Is, Ises, Spells, Tells, Tellss}
use denote.Memory.{lone, pointee}
use denote.Plain.{Boolean, UInt, bool_Tells, uint_Tells}
use denote.RattleType.{RattleType, Denots}
use denote.Ref.{mut_Tells, mut_vals, MutRef, shr_Tells, ShrRef}
use denote.Slice.{MutSlice, ShrSlice, mut_slice_Tells, shr_slice_Tells, slice_ty, slice_val}
use Rattle.std.specs.contracts.alloc.Global as heap
use Rattle.std.proofs.alloc.Global.TheLaws as heap_laws

-- one that is passed on as a copy: its type, the types of its local and of the copy's, and its machine value
pub record Parameter : Type 1 where
  pub row : RattleType
  pub passed_as : Ty
  pub copied_as : Ty
  pub word : row.Denot → Val
  pub tells : Tells row (Is row) (λ x. word x ∷ [])
  pub passed : (x : row.Denot) → Is row x (word x ∷ []) → T (has_ty passed_as (word x)) × WT (word x)
  pub copied : (x : row.Denot) → Is row x (word x ∷ []) → T (has_ty copied_as (word x)) × WT (word x)

abbrev pub number : Width → Parameter
number w = record {
  row = UInt w;
  passed_as = ty_int w;
  copied_as = ty_int w;
  word = vint w;
  tells = uint_Tells w;
  passed = λ n is. (eqb_refl (bytes w), record { fits = is.1 });
  copied = λ n is. (eqb_refl (bytes w), record { fits = is.1 });
}

abbrev pub truth : Parameter
truth = record { row = Boolean; passed_as = ty_bool; copied_as = ty_bool; word = vbool; tells = bool_Tells; passed = λ t is. (tt, tt); copied = λ t is. (tt, tt) }

-- a type P that is lent, and the same with its own lifetimes erased
abbrev pub shared_as : RattleType → Lifetime → Lft → RattleType → Parameter
shared_as erasing ℓ κ P = record {
  row = ShrRef ℓ κ P;
  passed_as = ty_ref ℓ imm (pointee P.written);
  copied_as = ty_ref erased imm (pointee erasing.written);
  word = λ x. vptr x.ref_ptr.0 x.ref_ptr.1;
  tells = shr_Tells ℓ κ P;
  passed = λ x is. (tt, tt);
  copied = λ x is. (tt, tt);
}

abbrev pub shared : Lifetime → Lft → RattleType → Parameter
shared ℓ κ P = shared_as P ℓ κ P

abbrev pub items : Lifetime → Lft → RattleType → Parameter
items ℓ κ P = record {
  row = ShrSlice ℓ κ P;
  passed_as = slice_ty (ty_ref ℓ imm (pointee P.written));
  copied_as = slice_ty (ty_ref erased imm (pointee P.written));
  word = λ x. slice_val x.ref_ptr (length x.now);
  tells = shr_slice_Tells ℓ κ P;
  passed = λ x is. (tt, (tt, (record { fits = is.0.1.0 }, tt)));
  copied = λ x is. (tt, (tt, (record { fits = is.0.1.0 }, tt)));
}

abbrev pub allocator : {M : Type 1} {𝓤 : Ura M} → Logic 𝓤 → Parameter
allocator 𝓛 = record {
  row = heap.the_row;
  passed_as = lone heap.the_row.mir;
  copied_as = lone heap.the_row.mir;
  word = heap_laws.lowers.lowered;
  tells = heap_laws.lowers.val_is;
  passed = λ x is. ((heap_laws.the_row_laws.lawful 𝓛).typed x _ is).0;
  copied = λ x is. ((heap_laws.the_row_laws.lawful 𝓛).typed x _ is).0;
}

-- all of them: after those that are copied a buffer may come, and a struct that is filled, which are lent again
infixr 30 ◌&◌
pub data Parameters : Type 1 where
  none : Parameters
  filled : Lifetime → Lft → RattleType → Parameters
  buffer : Lifetime → Lft → Parameters → Parameters
  ◌&◌ : Parameter → Parameters → Parameters

abbrev pub rows : Parameters → List RattleType
rows none = []
rows (filled ℓ κ P) = MutRef ℓ κ P ∷ []
rows (buffer ℓ κ ps) = MutSlice ℓ κ u8 ∷ rows ps
rows (p & ps) = p.row ∷ rows ps

abbrev pub words : (ps : Parameters) → Spells (rows ps)
words none = tt
words (filled ℓ κ P) = (mut_vals, tt)
words (buffer ℓ κ ps) = (λ x. slice_val x.ref_ptr (length x.now) ∷ [], words ps)
words (p & ps) = (λ x. p.word x ∷ [], words ps)

pub all_tell : (ps : Parameters) → Tellss (rows ps) (Ises (rows ps)) (words ps)
all_tell none = tt
all_tell (filled ℓ κ P) = (mut_Tells ℓ κ P, tt)
all_tell (buffer ℓ κ ps) = (mut_slice_Tells ℓ κ u8, all_tell ps)
all_tell (p & ps) = (p.tells, all_tell ps)

-- the last values: a buffer has one, and a struct that is filled
abbrev pub Lasts : (ps : Parameters) → Denots (rows ps) → Type 0
Lasts none a = Unit {0}
Lasts (filled ℓ κ P) a = P.Denot × Unit {0}
Lasts (buffer ℓ κ ps) a = List ℕ × Lasts ps a.1
Lasts (p & ps) a = Unit {0} × Lasts ps a.1

abbrev pub said_of : (ps : Parameters) (a : Denots (rows ps)) → Lasts ps a → Fml
said_of none a ws = ftrue
said_of (filled ℓ κ P) a ws = fsep (left ((MutRef ℓ κ P).exit yes) a.0 ws.0) ftrue
said_of (buffer ℓ κ ps) a ws = fsep (left ((MutSlice ℓ κ u8).exit yes) a.0 ws.0) (said_of ps a.1 ws.1)
said_of (p & ps) a ws = fsep ftrue (said_of ps a.1 ws.1)
