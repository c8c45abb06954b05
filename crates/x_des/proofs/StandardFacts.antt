-- Published values of DES, so that a wrong entry, order or step in the definitions does not check.
use Rattle.std.proofs.Common.{◌≡◌, refl}
use Rattle.x_des.specs.Bits.{bits_of, number, pick, exclusive_or}
use Rattle.x_des.specs.Des.{substituted, substitution, cipher, keys_from, round_keys, crypted, encrypted, decrypted, enciphered, deciphered}

pub enciphered_known : enciphered 0x133457799BBCDFF1 0x0123456789ABCDEF ≡ 0x85E813540F0AB405
unfolding bits_of number pick exclusive_or substituted substitution cipher keys_from round_keys crypted encrypted enciphered
enciphered_known = refl

pub deciphered_known : deciphered 0x133457799BBCDFF1 0x85E813540F0AB405 ≡ 0x0123456789ABCDEF
unfolding bits_of number pick exclusive_or substituted substitution cipher keys_from round_keys crypted decrypted deciphered
deciphered_known = refl
