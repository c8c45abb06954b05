-- The worked code of FIPS 113, so that a wrong step or filling in the definitions does not check.
use Rattle.std.proofs.Common.{◌≡◌, codes, refl}
use Rattle.x_des.specs.Bits.{bits_of, number, pick, exclusive_or}
use Rattle.x_des.specs.Des.{substituted, substitution, cipher, keys_from, round_keys, crypted, encrypted, enciphered}
use Rattle.x_mac.specs.Code.{filled, word_of, blocks, code_from, code_of}

pub code_known : code_of 0x0123456789ABCDEF (codes "7654321 Now is the time for ") ≡ 0xF1D30F6849312CA4
unfolding filled word_of blocks code_from bits_of number pick exclusive_or substituted substitution cipher keys_from round_keys crypted encrypted enciphered
code_known = refl
